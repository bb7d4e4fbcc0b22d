-- A script fits a sheet exactly where the two have one n and one hidden set and the rules of the script's table name visible quantities alone. Assumes nothing.
use Rattle.std.specs.Prelude.{Ok}
use mathlib.Core.Path.{◌≡◌, refl, sym, ◌∙◌}
use mathlib.Core.Bool.{Bool, true, false, cond, not, ◌||◌}
use mathlib.Core.List.{List, [], ◌∷◌}
use mathlib.Core.Logic.{◌↔◌}
use Prim.Native.Nat.{ℕ, ◌≤◌, ◌<◌}
use native.Mathlib.Omega.{arith}
use lib.Dec.{eqb}
use lib.IntN.{ℤ, pos}
use lib.ListN.{length, length-replicate, get_or-replicate}
use borrow.Author.Tests.{eqb-true, eqb-false, eq-eqb}
use Rattle.integers.specs.Bound.{half, smaller}
use Rattle.integers.proofs.Parts.{smaller_right}
use Rattle.words.specs.Change.{word_at, lowered}
use Rattle.words.proofs.Change.{lowered_length, lowered_same, lowered_other}
use Rattle.places.specs.Numbering.{block_start}
use Rattle.rules.specs.declared.rule.Rule.{Rule}
use Rattle.rules.specs.declared.rule.Rule.TheVariants.{One, Two, Nothing}
use Rattle.rules.specs.declared.paper.Paper.{Paper}
use Rattle.rules.specs.declared.paper.Paper.TheVariants.{Sheet, Script}
use Rattle.rules.specs.Hidden.{hidden_in}
use Rattle.rules.specs.Limits.{no_rule}
use Rattle.rules.specs.Literal.{quantity_of}
use Rattle.rules.specs.Meaning.{bound_of, names}
use Rattle.rules.specs.Steps.{halved_of}
use Rattle.tables.specs.Places.{rule_at, find_place, HasPlace}
use Rattle.tables.specs.Tables.{has_rule, empty_table, rule_reply, put_at, put_halved, put_rule, put_all, table_of, table_names_hidden}
use Rattle.tables.specs.Meaning.{HoldsRule, NoneNames, NamesVisible}
use Rattle.tables.proofs.Tests.{clash, both_true}
use Rattle.tables.proofs.Naming.{names_test}
use Rattle.tables.proofs.Places.{place_of, has_place_below, found_two, names_bound, place_names}
use Rattle.tables.proofs.Putting.{different_quantities, one_accepted, two_accepted}
use Rattle.tables.proofs.Lists.{AllAccepted, put_length}
use Rattle.lines.specs.Spelling.{written_rules}
use Rattle.reading.specs.Texts.{Contents}
use Rattle.reading.specs.Meaning.{FineLines, contents_limit}
use Rattle.reading.proofs.FineRules.{contents_accepted}
use Rattle.elimination.proofs.SumWords.{has_rule_mono}
use Rattle.scripts.specs.Meaning.{set_in, table_in, Matches}
use Rattle.scripts.specs.Marking.{same_headers, fits_sheet}
use Rattle.scripts.proofs.Sheets.{fine_table}

-- no rule of a table over n quantities names quantity q
record Silent (n q : ℕ) (t : List ℤ) : Type 0 where
  each : (k : ℕ) → HoldsRule n t k → names q (rule_at k (pos 0)) ≡ false

-- ---- a rule put in

-- a bound that goes to a place adds the names of the place
lowered_silent : (n q : ℕ) (t : List ℤ) (k : ℕ) (c : ℤ) → block_start n ≤ length t → k < block_start n → has_rule c ≡ true
    → Silent n q (lowered t k c) ↔ (Silent n q t × (names q (rule_at k (pos 0)) ≡ false))
lowered_silent n q t k c l b e = (
  λ s. (record { each = λ j p. s.each j (record { inside = p.inside; there = rw (lowered_length t k c) p.there; rule = kept j p (eqb j k) refl }) }, s.each k here),
  λ s. record { each = λ j p. back s.0 s.1 j p.inside (rw (lowered_length t k c) at p.there) p.rule (eqb j k) refl },
)
  where
    word : word_at (lowered t k c) k ≡ smaller (word_at t k) c
    word = lowered_same t k c (omega arith)

    here : HoldsRule n (lowered t k c) k
    here = record {
      inside = b;
      there = omega (arith, lowered_length t k c);
      rule = rw word (has_rule_mono (smaller (word_at t k) c) c (smaller_right (word_at t k) c) e);
    }

    kept : (j : ℕ) → HoldsRule n t j → (d : Bool) → eqb j k ≡ d → has_rule (word_at (lowered t k c) j) ≡ true
    kept j p true d = rw (eqb-true j k d) here.rule
    kept j p false d = rw (lowered_other t k j c (eqb-false j k d)) p.rule

    back : Silent n q t → names q (rule_at k (pos 0)) ≡ false → (j : ℕ) → j < block_start n → j < length t → has_rule (word_at (lowered t k c) j) ≡ true
        → (d : Bool) → eqb j k ≡ d → names q (rule_at j (pos 0)) ≡ false
    back s f j h g r true d = rw (eqb-true j k d) f
    back s f j h g r false d = s.each j (record { inside = h; there = g; rule = rw (lowered_other t k j c (eqb-false j k d)) at r })

-- these are the names of the rule whose place it is
placed_silent : (n q : ℕ) (t : List ℤ) (r : Rule) → block_start n ≤ length t → HasPlace n r → has_rule (bound_of r) ≡ true
    → Silent n q (lowered t (place_of r) (bound_of r)) ↔ (Silent n q t × (names q r ≡ false))
placed_silent n q t r l u e =
    let p = lowered_silent n q t (place_of r) (bound_of r) l (has_place_below n r u) e in
    rw (place_names n q r (pos 0) u) at p

-- a rule of one quantity
one_silent : (n q : ℕ) (t : List ℤ) (x : ℕ) (c : ℤ) → block_start n ≤ length t → rule_reply n (One x c) ≡ Ok tt
    → Silent n q (put_halved t (One x c)) ↔ (Silent n q t × (names q (One x c) ≡ false))
unfolding put_halved put_at find_place place_of
one_silent n q t x c l e = let p = one_accepted n x c e in placed_silent n q t (One x c) l p.0 p.1

-- a rule of two different ones
two_silent : (n q : ℕ) (t : List ℤ) (x y : ℕ) (c : ℤ) → block_start n ≤ length t → (x ≡ y → ⊥) → rule_reply n (Two x y c) ≡ Ok tt
    → Silent n q (put_halved t (Two x y c)) ↔ (Silent n q t × (names q (Two x y c) ≡ false))
unfolding put_halved put_at find_place place_of
two_silent n q t x y c l d e =
    let p = two_accepted n x y c e in
    let u : quantity_of x ≡ quantity_of y → ⊥ = different_quantities x y d p.3 in
    rw (found_two x y u) (placed_silent n q t (Two x y c) l (p.0, p.1, u) p.2)

-- a doubled term names its quantity once
doubled_names : (q x : ℕ) (c d : ℤ) → names q (Two x x c) ≡ names q (One x d)
unfolding names
doubled_names q x c d = go (eqb (quantity_of x) q)
  where
    go : (b : Bool) → (b || b) ≡ b
    go true = refl
    go false = refl

-- a bare rule goes nowhere
bare_silent : (n q : ℕ) (t : List ℤ) (c : ℤ) → Silent n q (put_halved t (Nothing c)) ↔ (Silent n q t × (names q (Nothing c) ≡ false))
unfolding put_halved put_at find_place names
bare_silent n q t c = (λ s. (s, refl), λ s. s.0)

-- an accepted rule adds its names
put_silent : (n q : ℕ) (t : List ℤ) (r : Rule) → block_start n ≤ length t → rule_reply n (halved_of r) ≡ Ok tt
    → Silent n q (put_rule t r) ↔ (Silent n q t × (names q r ≡ false))
unfolding put_rule halved_of
put_silent n q t (One x c) l e = one_silent n q t x c l e
put_silent n q t (Two x y c) l e = go (eqb x y) refl e
  where
    go : (b : Bool) → eqb x y ≡ b → rule_reply n (cond b (One x (half c)) (Two x y c)) ≡ Ok tt
        → Silent n q (put_halved t (cond b (One x (half c)) (Two x y c))) ↔ (Silent n q t × (names q (Two x y c) ≡ false))
    go true d f = rw (sym (eqb-true x y d), doubled_names q x c (half c)) (one_silent n q t x (half c) l f)
    go false d f = two_silent n q t x y c l (eqb-false x y d) f
put_silent n q t (Nothing c) l e = bare_silent n q t c

-- ---- all rules of a list

-- rule by rule
put_all_silent : (n q : ℕ) (t : List ℤ) (rs : List Rule) → block_start n ≤ length t → AllAccepted n rs
    → Silent n q (put_all t rs) ↔ (Silent n q t × NoneNames q rs)
unfolding put_all
put_all_silent n q t [] l a = (λ s. (s, tt), λ s. s.0)
put_all_silent n q t (r ∷ rs) l a =
    let p = put_silent n q t r l a.0 in
    let z = put_all_silent n q (put_rule t r) rs (omega (arith, put_length t r)) a.1 in
    (λ s. ((p.0 (z.0 s).0).0, ((p.0 (z.0 s).0).1, (z.0 s).1)), λ m. z.1 (p.1 (m.0, m.1.0), m.1.1))

-- the table of a list names just what the list does
table_silent : (n q : ℕ) (rs : List Rule) → AllAccepted n rs → Silent n q (table_of n rs) ↔ NoneNames q rs
table_silent n q rs a =
    let p = put_all_silent n q (empty_table n) rs (omega (arith, length-replicate (block_start n) no_rule)) a in
    (λ s. (p.0 s).1, λ m. p.1 (none, m))
  where
    none : Silent n q (empty_table n)
    none = record {
      each = λ k p. clash {b = has_rule no_rule} (rw (get_or-replicate (block_start n) k no_rule (pos 0) p.inside) at p.rule) refl;
    }

-- ---- hidden quantities

-- a table names visible quantities alone exactly where it names no hidden one
visible_silent : (n : ℕ) (hidden : ℕ → Bool) (t : List ℤ) → NamesVisible n hidden t ↔ ((q : ℕ) → hidden q ≡ true → Silent n q t)
visible_silent n hidden t = (to, of)
  where
    to : NamesVisible n hidden t → (q : ℕ) → hidden q ≡ true → Silent n q t
    to v q e = record { each = λ k p. go k p (names q (rule_at k (pos 0))) refl }
      where
        go : (k : ℕ) → HoldsRule n t k → (b : Bool) → names q (rule_at k (pos 0)) ≡ b → b ≡ false
        go k p true d = clash e (v.each k p q (names_bound q k (word_at t k) (pos 0) ∙ d))
        go k p false d = refl

    of : ((q : ℕ) → hidden q ≡ true → Silent n q t) → NamesVisible n hidden t
    of s = record { each = λ k p q e. go k p q (names_bound q k (pos 0) (word_at t k) ∙ e) (hidden q) refl }
      where
        go : (k : ℕ) → HoldsRule n t k → (q : ℕ) → names q (rule_at k (pos 0)) ≡ true → (b : Bool) → hidden q ≡ b → b ≡ false
        go k p q e true d = clash e ((s q d).each k p)
        go k p q e false d = refl

-- ---- two contents whose lines are fine

-- the table of contents names just what their rules do
table_names : (paper : Paper) (c : Contents) → FineLines (contents_limit paper c) c
    → (q : ℕ) → Silent c.count q (table_in c) ↔ NoneNames q (written_rules c.written)
table_names paper c f q = table_silent c.count q (written_rules c.written) (contents_accepted paper c f)

module _ (c d : Contents) (f : FineLines (contents_limit Sheet c) c) (g : FineLines (contents_limit Script d) d) where
  -- the table of a script that fits names visible quantities alone
  pub matches_visible : Matches c d → NamesVisible c.count (hidden_in (set_in c)) (table_in d)
  matches_visible m =
      rw (← m.count) ((visible_silent d.count (hidden_in (set_in c)) (table_in d)).1
      (λ q e. (table_names Script d g q).1 (m.visible q (sym ((fine_table Sheet c f).members q) ∙ e))))

  -- a script with the sheet's n and hidden set, whose table does so, fits
  visible_matches : d.count ≡ c.count → set_in d ≡ set_in c → NamesVisible c.count (hidden_in (set_in c)) (table_in d) → Matches c d
  visible_matches n s v = record {
    count = n;
    hiddens = sym (fine_table Script d g).back ∙ rw (n, s) (fine_table Sheet c f).back;
    visible = λ q e.
        (table_names Script d g q).0 ((visible_silent d.count (hidden_in (set_in c)) (table_in d)).0 (rw (← n) at v) q ((fine_table Sheet c f).members q ∙ e));
  }

  -- so the test whether a script fits tells it
  pub fits_matches : (fits_sheet c d ≡ true) ↔ Matches c d
  fits_matches = (to, of)
    where
      headed : same_headers c.count (set_in c) d.count (set_in d) ≡ true → (d.count ≡ c.count) × (set_in d ≡ set_in c)
      headed e =
          let p = both_true (eqb c.count d.count) (eqb (set_in c) (set_in d)) e in
          (sym (eqb-true c.count d.count p.0), sym (eqb-true (set_in c) (set_in d) p.1))

      room : d.count ≡ c.count → block_start c.count ≤ length (table_in d)
      room e = rw ((fine_table Script d g).size, e) (omega arith)

      to : fits_sheet c d ≡ true → Matches c d
      to e =
          let p = both_true (same_headers c.count (set_in c) d.count (set_in d)) (not (table_names_hidden (hidden_in (set_in c)) c.count (table_in d))) e in
          let h = headed p.0 in
          visible_matches h.0 h.1 ((names_test (hidden_in (set_in c)) c.count (table_in d) (room h.0)).0 p.1)

      of : Matches c d → fits_sheet c d ≡ true
      of m =
          let s : set_in d ≡ set_in c = rw m.hiddens in
          rw (
            eq-eqb c.count d.count (sym m.count),
            eq-eqb (set_in c) (set_in d) (sym s),
            (names_test (hidden_in (set_in c)) c.count (table_in d) (room m.count)).1 (matches_visible m),
          )
