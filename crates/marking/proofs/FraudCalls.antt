-- Calls of marking two tables that its promise rules out whatever the verdict: words changed that are to stay, lengths asked that are too large, and a script
-- that names a hidden quantity marked. Assumes nothing.
use mathlib.Core.Path.{◌≡◌, refl}
use mathlib.Core.List.{List, [], ◌∷◌}
use mathlib.Core.Logic.{◌⊎◌, inl, inr, ⊎_elim}
use Prim.Native.Nat.{ℕ, ◌<◌}
use native.Mathlib.Omega.{arith}
use lib.IntN.{ℤ, pos}
use lib.ListN.{replicate}
use Rattle.places.specs.Numbering.{block_start}
use Rattle.rules.specs.declared.refusal.Refusal.{Refusal}
use Rattle.rules.specs.declared.refusal.Refusal.TheVariants.{TooShort}
use Rattle.rules.specs.Refusing.{RefusedBy}
use Rattle.rules.specs.Hidden.{hidden_in}
use Rattle.rules.specs.Steps.{rule_of}
use Rattle.tables.specs.Tables.{empty_table, table_of}
use Rattle.tables.proofs.Tests.{clash}
use Rattle.keys.proofs.Sheets.{steps}
use Rattle.marking.specs.declared.verdict.Verdict.{Verdict}
use Rattle.marking.specs.declared.verdict.Verdict.TheVariants.{Equal}
use Rattle.marking.specs.Meaning.{mark_needs}
use Rattle.marking.specs.Promises.{TablesMarked}
use Rattle.marking.proofs.Checking.{met_accepted}
use Rattle.std.specs.Prelude.{Ok, Err}
use Rattle.marking.specs.Verdicts.{Marking}

-- ---- words

module _ (set : ℕ) (sheet script : List ℤ) where
  -- the assignment is changed, and the verdict is equal
  pub changed_on_equal : (w w' : List ℤ) → TablesMarked 1 set sheet script w (pos 7 ∷ []) (Ok Equal) w' (pos 0 ∷ []) → ⊥
  changed_on_equal w w' m = let e = m.written.kept refl in let z : ◌≡◌ {A = ℕ} 0 7 = cc in omega arith

  -- it is changed on a refusal
  pub changed_on_refusal : (f : Refusal) (w w' : List ℤ) → TablesMarked 1 set sheet script w (pos 7 ∷ []) (Err f) w' (pos 0 ∷ []) → ⊥
  changed_on_refusal f w w' m = let e = m.written.kept refl in let z : ◌≡◌ {A = ℕ} 0 7 = cc in omega arith

  -- the workspace is
  pub workspace_on_refusal : (f : Refusal) (v v' : List ℤ) → TablesMarked 1 set sheet script (pos 7 ∷ []) v (Err f) (pos 0 ∷ []) v' → ⊥
  workspace_on_refusal f v v' m = let e = m.lent.kept refl in let z : ◌≡◌ {A = ℕ} 0 7 = cc in omega arith

  -- the word after the n of an assignment is changed, whatever the reply is
  pub past_values : (r : Marking) (w w' : List ℤ) → TablesMarked 1 set sheet script w (pos 1 ∷ pos 7 ∷ []) r w' (pos 1 ∷ pos 0 ∷ []) → ⊥
  past_values r w w' m = let e = m.written.rest in let z : ◌≡◌ {A = ℕ} 0 7 = cc in omega arith

-- ---- lengths

-- a slice of so many words
abbrev words : ℕ → List ℤ
words k = replicate k (pos 0)

-- a refusal is no reply to n 1, none hidden, two tables with no rules, a workspace of so many words and so many for the assignment
abbrev NoReply : ℕ → ℕ → Refusal → Type 0
NoReply w v f = (w' v' : List ℤ) → TablesMarked 1 0 (empty_table 1) (empty_table 1) (words w) (words v) (Err f) w' v' → ⊥

-- a 6 is of the workspace or of the assignment
short_of : (w v m : ℕ) → RefusedBy (mark_needs 1 0 (empty_table 1) (empty_table 1) w v) (TooShort m) → ((w < 4) × (m ≡ 4)) ⊎ ((v < 1) × (m ≡ 1))
unfolding block_start
short_of w v m (inl (h, e)) = let z : ◌≡◌ {A = ℕ} 0 1 = cc in absurd (omega arith)
short_of w v m (inr (s, inl (h, e))) = inl (omega arith, cc)
short_of w v m (inr (s, inr (l, inl (h, e)))) = inr (omega arith, cc)
short_of w v m (inr (s, inr (l, inr (k, inl (h, e))))) = let z : ◌≡◌ {A = ℕ} 0 1 = cc in absurd (omega arith)
short_of w v m (inr (s, inr (l, inr (k, inr (i, inl (h, e)))))) = let z : ◌≡◌ {A = ℕ} 0 1 = cc in absurd (omega arith)
short_of w v m (inr (s, inr (l, inr (k, inr (i, inr (x, z)))))) = absurd z

-- 4n² words and n words refused, whatever is asked for
pub enough_refused : (m : ℕ) → NoReply 4 1 (TooShort m)
enough_refused m w' v' t = ⊎_elim (λ p. omega (arith, p.0)) (λ p. omega (arith, p.0)) (short_of 4 1 m ((t.decided.refused (TooShort m)).0 refl))

-- 8 asked for a workspace of 3 words, where 4 are needed
pub double_asked : NoReply 3 1 (TooShort 8)
double_asked w' v' t = ⊎_elim (λ p. omega (arith, p.1)) (λ p. omega (arith, p.1)) (short_of 3 1 8 ((t.decided.refused (TooShort 8)).0 refl))

-- 2 asked for an assignment of no words, where 1 is needed
pub one_more_asked : NoReply 4 0 (TooShort 2)
one_more_asked w' v' t = ⊎_elim (λ p. omega (arith, p.1)) (λ p. omega (arith, p.1)) (short_of 4 0 2 ((t.decided.refused (TooShort 2)).0 refl))

-- ---- names

-- n 1, hidden 1: the script +1:0 names a hidden quantity, and is marked
pub hidden_marked : (v : Verdict) (sheet w u w' u' : List ℤ) → TablesMarked 1 1 sheet (table_of 1 (rule_of (pos 1) (pos 0) (pos 0) ∷ [])) w u (Ok v) w' u' → ⊥
unfolding steps
hidden_marked v sheet w u w' u' t =
    let x = (met_accepted _ _ _ _ _ _ (t.decided.accepted.0 refl)).visible in
    clash {b = hidden_in 1 1} refl (x.each 0 (record { inside = omega arith; there = omega arith; rule = refl }) 1 refl)
