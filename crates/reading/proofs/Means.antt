-- Checking a text is what the spellings say: it answers exactly what the text means. Assumes nothing.
use mathlib.Core.Path.{◌≡◌, refl, sym, ◌∙◌, ap, subst}
use mathlib.Core.Bool.{Bool, true, false}
use mathlib.Core.List.{List, []}
use mathlib.Core.Logic.{◌↔◌, inl, inr}
use Prim.Native.Nat.{ℕ, ◌<◌, ◌≤◌}
use lib.Dec.{ltb}
use lib.ListN.{length}
use borrow.Author.Tests.{lt-ltb, le-ltb, ltb-true, ltb-false}
use Rattle.rules.specs.declared.paper.Paper.{Paper}
use Rattle.rules.specs.declared.refusal.Refusal.{Refusal}
use Rattle.rules.specs.declared.refusal.Refusal.TheVariants.{Size}
use Rattle.rules.specs.Limits.{max_text}
use Rattle.lines.specs.Lines.{Judged, accepted, refused}
use Rattle.reading.specs.Texts.{Contents}
use Rattle.reading.specs.Meaning.{Reads, FailsFor}
use Rattle.reading.specs.Reading.{lines_from, check_text}
use Rattle.reading.proofs.LinesAnswered.{Tells, lines_tell}
use Rattle.reading.proofs.LinesSpelled.{told_answer}

-- what checking a text has to answer: what it writes, with nothing after it, or the refusal
abbrev pub Means : Paper → List ℕ → Judged Contents → Type 0
Means paper s (accepted c u) = Reads paper s c × (u ≡ [])
Means paper s (refused f) = FailsFor paper s f

-- a text that is too long is not checked further, and one that is not is answered by its lines
pub long_check : (paper : Paper) (s : List ℕ) → max_text < length s → check_text paper s ≡ refused Size
unfolding check_text
long_check paper s h = rw (lt-ltb max_text (length s) h)

pub small_check : (paper : Paper) (s : List ℕ) → length s ≤ max_text → check_text paper s ≡ lines_from paper s
unfolding check_text
small_check paper s h = rw (le-ltb max_text (length s) h)

module _ (paper : Paper) (s : List ℕ) where
  -- a text that is not too long means what its lines tell
  small_means : (j : Judged Contents) → length s ≤ max_text → Tells paper s j → Means paper s j
  small_means (accepted c u) h t = (record { small = h; spelled = t.0 }, t.1)
  small_means (refused f) h t = inr (h, t)

  -- the answer is what the text means
  check_means : Means paper s (check_text paper s)
  check_means = go (ltb max_text (length s)) refl
    where
      go : (b : Bool) → ltb max_text (length s) ≡ b → Means paper s (check_text paper s)
      go true e = let h = ltb-true max_text (length s) e in subst (Means paper s) (sym (long_check paper s h)) (inl (h, refl))
      go false e =
          let h = ltb-false max_text (length s) e in
          subst (Means paper s) (sym (small_check paper s h)) (small_means (lines_from paper s) h (lines_tell paper s))

  -- what it means is the answer
  told_check : (j : Judged Contents) → length s ≤ max_text → Tells paper s j → check_text paper s ≡ j
  told_check j h t = small_check paper s h ∙ told_answer paper s j t

  fails_check : (f : Refusal) → FailsFor paper s f → check_text paper s ≡ refused f
  fails_check f (inl x) = long_check paper s x.0 ∙ ap refused (sym x.1)
  fails_check f (inr x) = told_check (refused f) x.0 x.1

  means_check : (j : Judged Contents) → Means paper s j → check_text paper s ≡ j
  means_check (accepted c u) m = told_check (accepted c u) m.0.small (m.0.spelled, m.1)
  means_check (refused f) m = fails_check f m

  -- the definition by spellings
  pub text_means : (j : Judged Contents) → (check_text paper s ≡ j) ↔ Means paper s j
  text_means j = (λ e. subst (Means paper s) e check_means, means_check j)

  -- a text that is fine is accepted with its contents
  pub reads_check : (c : Contents) → Reads paper s c → check_text paper s ≡ accepted c []
  reads_check c p = means_check (accepted c []) (p, refl)

  -- and has no others
  pub reads_same : (c d : Contents) → Reads paper s c → Reads paper s d → c ≡ d
  reads_same c d p q = let e = sym (reads_check c p) ∙ reads_check d q in cc
