-- A tight key stays: the definition of the tightest key, applied to the tightest key of any sheet as a table, gives that table, and so do the steps. Each of its rules is
-- met by all of the sheet, so what all that satisfies the table meets all of the sheet meets: no step finds a smaller bound. No bound is limited. Assumes nothing.
use mathlib.Core.Path.{◌≡◌, refl, sym, ◌∙◌, ap₂}
use mathlib.Core.Bool.{Bool, true, false, cond}
use mathlib.Core.List.{List, ◌++◌}
use Prim.Native.Nat.{ℕ, zero, suc, ◌+◌, ◌≤◌, ◌<◌}
use native.Mathlib.Omega.{arith}
use lib.IntN.{ℤ, pos}
use lib.ListN.{length, take, drop}
use lib.Seq.{take_all, take-add}
use lib.Signed.{◌≤ℤ◌}
use Rattle.integers.proofs.Parts.{linear, lt_z_false}
use Rattle.words.specs.Change.{word_at}
use Rattle.words.proofs.Change.{change_nothing}
use Rattle.places.specs.Numbering.{block_start}
use Rattle.rules.specs.Limits.{no_rule}
use Rattle.rules.specs.Meaning.{Assignment, Meets, names}
use Rattle.tables.specs.Places.{rule_at}
use Rattle.tables.specs.Tables.{has_rule, clearing, cleared}
use Rattle.tables.specs.Meaning.{HoldsRule, rule_in, Satisfies, Solutions, NamesVisible, NoneAbove}
use Rattle.tables.proofs.Places.{names_bound}
use Rattle.elimination.specs.Hiding.{every, eliminated}
use Rattle.elimination.specs.Magnitude.{Unnamed}
use Rattle.elimination.proofs.Unnamed.{unnamed_none, unnamed_same}
use Rattle.keys.specs.Keys.{hide_up_to, key_of}
use Rattle.keys.proofs.Visible.{visible_unnamed}
use Rattle.keys.proofs.Copying.{SameTable, same_front}
use Rattle.tightening.specs.Tightening.{tightened, tight_key_of}
use Rattle.tightening.specs.Meaning.{VisibleAt, TightKey}
use Rattle.tightening.specs.Promises.{TightStays}
use Rattle.tightening.proofs.Holding.{tightened_lowered}
use Rattle.tightening.proofs.Keeping.{tightened_length, tightened_rest, tightened_kept, tightened_visible}
use Rattle.tightening.proofs.Tight.{tight_visible}

-- ---- the definition

-- every assignment of the sheet satisfies its tight key,
key_kept : (hidden : ℕ → Bool) (n : ℕ) (sheet : Solutions) (u : List ℤ) → TightKey hidden n sheet u → (σ : Assignment) → sheet σ → Satisfies n u σ
key_kept hidden n sheet u t σ s = record { each = λ k p. (t.least k p).met σ s }

-- so what all that satisfies the key meets, all of the sheet meets: the key is its own tight key
pub definition_again : (hidden : ℕ → Bool) (n : ℕ) (sheet : Solutions) (u : List ℤ) → TightKey hidden n sheet u → TightKey hidden n (Satisfies n u) u
definition_again hidden n sheet u t = record {
  rule = λ k h. (
    λ p. (((t.rule k h).0 p).0, record { bound = word_at u k; met = λ σ s. s.each k p }),
    λ b. (t.rule k h).1 (b.0, record { bound = b.1.bound; met = λ σ s. b.1.met σ (kept σ s) }),
  );
  least = λ k p. record { met = λ σ s. s.each k p; least = λ d m. (t.least k p).least d (λ σ s. m σ (kept σ s)) };
  room = t.room;
  words = t.words;
}
  where
    kept : (σ : Assignment) → sheet σ → Satisfies n u σ
    kept = key_kept hidden n sheet u t

-- ---- hiding

-- a word that is no rule and not above the no-rule word is that word
none_word : (w : ℤ) → w ≤ℤ no_rule → has_rule w ≡ false → w ≡ no_rule
none_word w h e = omega (linear, lt_z_false w no_rule e)

module _ (n : ℕ) (t : List ℤ) (l : block_start n ≤ length t) (words : NoneAbove (block_start n) t) where
  -- where no rule names a quantity, clearing its places puts the no-rule word where it stands already,
  cleared_again : (j : ℕ) → Unnamed n j t → cleared n (suc j) t ≡ t
  unfolding cleared
  cleared_again j u = change_nothing (block_start n) (clearing (suc j)) t (λ k h. go k h (names (suc j) (rule_in t k)) refl)
    where
      go : (k : ℕ) → k < block_start n → (b : Bool) → names (suc j) (rule_in t k) ≡ b → cond b no_rule (word_at t k) ≡ word_at t k
      go k h true e = sym (none_word (word_at t k) (words k h) (unnamed_none n j t l u k h e))
      go k h false e = refl

  -- and hiding it changes nothing;
  eliminated_again : (j : ℕ) → j < n → Unnamed n j t → eliminated n j t ≡ t
  unfolding eliminated
  eliminated_again j h u = rw (unnamed_same n j t l u every h) (cleared_again j u)

  -- so a table whose rules name visible quantities alone stays where the hidden ones are hidden,
  hidden_again : (hidden : ℕ → Bool) → NamesVisible n hidden t → (m : ℕ) → m ≤ n → hide_up_to hidden n m t ≡ t
  unfolding hide_up_to
  hidden_again hidden v zero h = refl
  hidden_again hidden v (suc j) h = rw (hidden_again hidden v j (omega arith)) (go (hidden (suc j)) refl)
    where
      go : (b : Bool) → hidden (suc j) ≡ b → cond b (eliminated n j t) t ≡ t
      go true e = eliminated_again j (omega arith) (visible_unnamed hidden n j t v e)
      go false e = refl

  -- and is its own key
  key_again : (hidden : ℕ → Bool) → NamesVisible n hidden t → key_of hidden n t ≡ t
  unfolding key_of
  key_again hidden v = hidden_again hidden v n (omega arith)

-- ---- a table that is its own tight key

-- lists with the same first m words and the same rest are the same
whole : (m : ℕ) (t u : List ℤ) → take m u ≡ take m t → drop m u ≡ drop m t → u ≡ t
whole m t u e d =
    sym (take_all (m + r) u (omega arith)) ∙ take-add m r u ∙ ap₂ (λ (a b : List ℤ). a ++ take r b) e d ∙ sym (take-add m r t) ∙ take_all (m + r) t (omega arith)
  where
    r : ℕ
    r = length u + length t

module _ (hidden : ℕ → Bool) (n : ℕ) (u : List ℤ) (t : TightKey hidden n (Satisfies n u) u) where
  -- where the tightest table holds a rule, all that satisfies the table meets it, so the table's own bound is as small
  own_least : (k : ℕ) → HoldsRule n (tightened n u) k → word_at u k ≤ℤ word_at (tightened n u) k
  own_least k p = (t.least k held).least (word_at (tightened n u) k) met
    where
      met : (σ : Assignment) → Satisfies n u σ → Meets σ (rule_at k (word_at (tightened n u) k))
      met σ s = (tightened_kept n u σ t.room s).each k p

      visible : VisibleAt hidden k
      visible q e =
          (tightened_visible hidden n u t.room (tight_visible hidden n (Satisfies n u) u t)).each k p q (names_bound q k (word_at (tightened n u) k) (pos 0) ∙ e)

      held : HoldsRule n u k
      held = (t.rule k p.inside).1 (visible, record { bound = word_at (tightened n u) k; met = met })

  -- so the words of both are the same: elsewhere both are the no-rule word
  own_word : (k : ℕ) → k < block_start n → word_at (tightened n u) k ≡ word_at u k
  own_word k h = go (has_rule (word_at (tightened n u) k)) refl
    where
      lower : word_at (tightened n u) k ≤ℤ word_at u k
      lower = tightened_lowered n u t.room k h

      go : (b : Bool) → has_rule (word_at (tightened n u) k) ≡ b → word_at (tightened n u) k ≡ word_at u k
      go true e =
          let least = own_least k (record { inside = h; there = omega (arith, tightened_length n u, t.room); rule = e }) in
          omega (linear, lower)
      go false e = omega (linear, lower, lt_z_false (word_at (tightened n u) k) no_rule e, t.words k h)

  -- and so are the lists
  own_tightened : tightened n u ≡ u
  own_tightened = whole (block_start n) u (tightened n u) (same_front n u (tightened n u) same) (tightened_rest n u)
    where
      same : SameTable n u (tightened n u)
      same = record { mine = t.room; theirs = omega (arith, tightened_length n u, t.room); words = own_word }

-- ---- the steps

-- on a tight key they change nothing: it is its own key, and its own tightest table
steps_again : (hidden : ℕ → Bool) (n : ℕ) (sheet : Solutions) (u : List ℤ) → TightKey hidden n sheet u → tight_key_of hidden n u ≡ u
unfolding tight_key_of
steps_again hidden n sheet u t =
    rw (key_again n u t.room t.words hidden (tight_visible hidden n sheet u t)) (own_tightened hidden n u (definition_again hidden n sheet u t))

-- so it stays
pub tight_stays : (hidden : ℕ → Bool) (n : ℕ) (sheet : Solutions) (u : List ℤ) → TightKey hidden n sheet u → TightStays hidden n u
tight_stays hidden n sheet u t = record { definition = definition_again hidden n sheet u t; steps = steps_again hidden n sheet u t }
