-- Fine rules in bank order are the rules of their own table: put into an empty table and written again they come back, in their order. Assumes nothing.
use mathlib.Core.Path.{◌≡◌, refl, ◌∙◌, ap, ap₂}
use mathlib.Core.Bool.{Bool, true, false}
use mathlib.Core.List.{List, [], ◌∷◌, ◌++◌}
use Rattle.std.specs.Prelude.{Option, Some}
use Prim.Native.Nat.{ℕ, zero, suc, ◌+◌, ◌<◌}
use native.Mathlib.Omega.{arith}
use lib.Dec.{eqb}
use lib.IntN.{ℤ}
use lib.ListN.{length, replicate, length-append}
use lib.Seq.{append_snoc, take_at}
use borrow.Author.Tests.{eqb-true, eqb-false}
use Rattle.numerals.specs.Decimal.{cap}
use Rattle.places.specs.Numbering.{block_start}
use Rattle.rules.specs.Limits.{no_rule}
use Rattle.rules.specs.Meaning.{bound_of}
use Rattle.tables.specs.Tables.{put_rule, put_all, table_of}
use Rattle.tables.proofs.Lists.{table_of_length}
use Rattle.lines.specs.Spelling.{Written, written_rule, written_rules}
use Rattle.reading.specs.Texts.{rule_lines}
use Rattle.reading.specs.Meaning.{AllFine}
use Rattle.writing.specs.Writing.{rules_at, table_rules}
use Rattle.writing.proofs.Meanings.{put_first}
use Rattle.bank.specs.Order.{InBankOrder}
use Rattle.bank.proofs.CanonicalRules.{Canonical, canonical_rule}
use Rattle.bank.proofs.TableOrder.{NextFrom, after_next}

-- ---- words made of rules

-- the words that rules make after the words p, in m empty places from place i on, and from which they are written again
record Words (i m : ℕ) (p : List ℤ) (ws : List Written) : Type 0 where
  words : List ℤ
  made : put_all (p ++ replicate m no_rule) (written_rules ws) ≡ p ++ words
  back : rules_at i words ≡ ws

-- words and one more
longer : (p : List ℤ) (w : ℤ) {i : ℕ} → length p ≡ i → length (p ++ w ∷ []) ≡ suc i
longer p w l = rw (length-append p (w ∷ [])) (omega arith)

-- a rule is found at one place
at_same : {x : Option ℕ} {j k : ℕ} → x ≡ Some j → x ≡ Some k → j ≡ k
at_same e f = cc

-- a word more in front that holds no rule
skip_word : (i m : ℕ) (p : List ℤ) (ws : List Written) → Words (suc i) m (p ++ no_rule ∷ []) ws → Words i (suc m) p ws
unfolding rules_at
skip_word i m p ws f = record {
  words = no_rule ∷ f.words;
  made = rw (append_snoc p no_rule (replicate m no_rule), append_snoc p no_rule f.words) at f.made;
  back = f.back;
}

-- or that holds the rule of its place
put_word : (n i m : ℕ) (p : List ℤ) (w : Written) (ws : List Written) → length p ≡ i → Canonical n w i
    → Words (suc i) m (p ++ bound_of (written_rule w) ∷ []) ws → Words i (suc m) p (w ∷ ws)
unfolding rules_at put_all
put_word n i m p w ws l c f = record {
  words = b ∷ f.words;
  made = ap (λ (u : List ℤ). put_all u (written_rules ws)) put ∙ rw (append_snoc p b (replicate m no_rule), append_snoc p b f.words) at f.made;
  back = rw c.bound (ap₂ ◌∷◌ c.back f.back);
}
  where
    b : ℤ
    b = bound_of (written_rule w)

    put : put_rule (p ++ no_rule ∷ replicate m no_rule) (written_rule w) ≡ p ++ b ∷ replicate m no_rule
    put = rw c.held at (put_first p (replicate m no_rule) i b l c.bound)

-- ---- the rules of a bank sheet

module _ (n limit : ℕ) (below : limit < cap) where
  -- fine rules in order from a place on make words in the m places from there on that are left of a table over n quantities
  abbrev AllMade : ℕ → Type 0
  AllMade m = (i : ℕ) (p : List ℤ) (ws : List Written) → length p ≡ i → i + m ≡ block_start n
      → AllFine n limit (rule_lines ws) → InBankOrder ws → NextFrom i ws → Words i m p ws

  -- where no place is left there is no rule
  none_made : AllMade 0
  unfolding put_all rules_at
  none_made i p [] l e fine ordered next = record { words = []; made = refl; back = refl }
  none_made i p (w ∷ ws) l e fine ordered next =
      let c = canonical_rule n limit w below fine.0 ordered.0 in
      let same : next.place ≡ c.0 = at_same next.found c.1.found in
      let z : ⊥ = omega (arith, c.1.inside) in absurd z

  -- one place more holds the first rule where that is its place, and else none
  more_made : (m : ℕ) → AllMade m → AllMade (suc m)
  more_made m rest i p [] l e fine ordered next = skip_word i m p [] (rest (suc i) (p ++ no_rule ∷ []) [] (longer p no_rule l) (omega arith) tt tt tt)
  more_made m rest i p (w ∷ ws) l e fine ordered next = go (canonical_rule n limit w below fine.0 ordered.0)
    where
      go : (k : ℕ) × Canonical n w k → Words i (suc m) p (w ∷ ws)
      go (k, c) = at_place (eqb k i) refl
        where
          at_place : (b : Bool) → eqb k i ≡ b → Words i (suc m) p (w ∷ ws)
          at_place true q =
              let here : Canonical n w i = rw (eqb-true k i q) at c in
              put_word n i m p w ws l here
              (rest (suc i) (p ++ bound_of (written_rule w) ∷ []) ws (longer p (bound_of (written_rule w)) l) (omega arith) fine.1 ordered.2
              (after_next w i ws here.found ordered.1))
          at_place false q =
              let same : next.place ≡ k = at_same next.found c.found in
              skip_word i m p (w ∷ ws)
              (rest (suc i) (p ++ no_rule ∷ []) (w ∷ ws) (longer p no_rule l) (omega arith) fine ordered
              (record { place = k; found = c.found; from = omega (arith, eqb-false k i q) }))

  -- so it goes for any number of places
  all_made : (m : ℕ) → AllMade m
  all_made zero = none_made
  all_made (suc m) = more_made m (all_made m)

-- the first of fine rules in order has a place
first_place : (n limit : ℕ) (ws : List Written) → limit < cap → AllFine n limit (rule_lines ws) → InBankOrder ws → NextFrom 0 ws
first_place n limit [] below fine ordered = tt
first_place n limit (w ∷ ws) below fine ordered =
    let c = canonical_rule n limit w below fine.0 ordered.0 in
    record { place = c.0; found = c.1.found; from = omega arith }

-- fine rules in bank order are the rules of their own table
pub ordered_back : (n limit : ℕ) (ws : List Written) → limit < cap → AllFine n limit (rule_lines ws) → InBankOrder ws
    → rules_at 0 (table_of n (written_rules ws)) ≡ ws
ordered_back n limit ws below fine ordered =
    let f = all_made n limit below (block_start n) 0 [] ws refl (omega arith) fine ordered (first_place n limit ws below fine ordered) in
    ap (rules_at 0) f.made ∙ f.back

-- whatever words follow it
pub ordered_rules : (n limit : ℕ) (ws : List Written) → limit < cap → AllFine n limit (rule_lines ws) → InBankOrder ws
    → (v : List ℤ) → table_rules n (table_of n (written_rules ws) ++ v) ≡ ws
ordered_rules n limit ws below fine ordered v =
    ap (rules_at 0) (take_at (table_of n (written_rules ws)) v (block_start n) (table_of_length n (written_rules ws)))
    ∙ ordered_back n limit ws below fine ordered
