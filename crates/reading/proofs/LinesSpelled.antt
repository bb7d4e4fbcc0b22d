-- What the spellings say of a text is what its lines are answered with. Assumes nothing.
use mathlib.Core.Path.{◌≡◌, refl, sym, ◌∙◌, ap, subst}
use mathlib.Core.Bool.{Bool, true, false}
use mathlib.Core.List.{List, [], ◌∷◌, ◌++◌, append-nil}
use mathlib.Core.Logic.{◌⊎◌, inl, inr}
use Prim.Native.Nat.{ℕ}
use native.Mathlib.Omega.{arith}
use lib.Dec.{ltb}
use lib.ListN.{length}
use borrow.Author.Tests.{ltb-true, ltb-false}
use Rattle.rules.specs.declared.paper.Paper.{Paper}
use Rattle.rules.specs.declared.refusal.Refusal.{Refusal}
use Rattle.rules.specs.declared.refusal.Refusal.TheVariants.{Malformed, OutOfLimit, Cancelling}
use Rattle.lines.specs.Spelling.{Line, line_text, WellFormed, line_within, line_cancels}
use Rattle.lines.specs.Lines.{Judged, accepted, refused}
use Rattle.reading.specs.Texts.{Contents, lines_text}
use Rattle.reading.specs.Meaning.{Opening, start, counted, headed, ruled, lines_of, count_of, limit_at, LineKind, quantities_line, hidden-line, rules_line, rule-line, no_line, line_kind, due_kind, LineFails, malformed_at, outside_at, cancels_at}
use Rattle.reading.specs.Reading.{lines_from}
use Rattle.reading.proofs.Readers.{Value, value_of, some_kind}
use Rattle.reading.proofs.Openings.{line_of, go_on, Due, due_start, due_counted, due_headed, due_ruled}
use Rattle.reading.proofs.Steps.{Unspelled, spelled, unspelled}
use Rattle.reading.proofs.Ending.{all_of, sheet_lines, ended_due, ended_alone, ended_followed}
use Rattle.reading.proofs.LinesAnswered.{Tells}
use Rattle.reading.proofs.AfterOpenings.{reached}

-- after an opening a line is due,
record Going (paper : Paper) (o : Opening) : Type 0 where
  kind : LineKind
  next : Value kind → Opening
  line : Due paper o kind next

-- or none, and nothing may follow
record Over (paper : Paper) (o : Opening) : Type 0 where
  due : due_kind o ≡ no_line
  followed : (b : ℕ) (u : List ℕ) → go_on paper o (b ∷ u) ≡ refused (Malformed (line_of o))

-- one of the two holds
stage : (paper : Paper) (o : Opening) → Going paper o ⊎ Over paper o
stage paper start = inl (record { kind = quantities_line; next = counted; line = due_start paper })
stage paper (counted n) = inl (record { kind = hidden-line; next = headed n; line = due_counted paper n })
stage paper (headed n qs) = inl (record { kind = rules_line; next = λ m. ruled n qs m []; line = due_headed paper n qs })
stage paper (ruled n qs m rs) = go (ltb (length rs) m) refl
  where
    go : (b : Bool) → ltb (length rs) m ≡ b → Going paper (ruled n qs m rs) ⊎ Over paper (ruled n qs m rs)
    go true e = inl (record { kind = rule-line; next = λ r. ruled n qs m (rs ++ r ∷ []); line = due_ruled paper n qs m rs (ltb-true (length rs) m e) })
    go false e =
        let h = ltb-false (length rs) m e in inr (record { due = ended_due paper n qs m rs h; followed = ended_followed paper n qs m rs h })

-- where a line is of the kind due, a line is due
going : (paper : Paper) (o : Opening) (l : Line) → line_kind l ≡ due_kind o → Going paper o
going paper o l e = go (stage paper o)
  where
    go : Going paper o ⊎ Over paper o → Going paper o
    go (inl g) = g
    go (inr v) = absurd (some_kind l (e ∙ v.due))

module _ (paper : Paper) where
  -- the answers to a line that is spelled and not fine
  module _ (o : Opening) (l : Line) (due : line_kind l ≡ due_kind o) (v : List ℕ) where
    outside_answer : WellFormed l → line_within (count_of o) (limit_at paper o) l ≡ false → go_on paper o (line_text l ++ v) ≡ refused (OutOfLimit (line_of o))
    outside_answer =
        let g = going paper o l due in
        let p = value_of g.kind l (due ∙ g.line.due) in
        subst (λ (x : Line). WellFormed x → line_within (count_of o) (limit_at paper o) x ≡ false
        → go_on paper o (line_text x ++ v) ≡ refused (OutOfLimit (line_of o)))
        p.1 (λ f e. spelled g.line p.0 v false _ f e refl)

    cancels_answer : WellFormed l → line_within (count_of o) (limit_at paper o) l ≡ true → line_cancels l ≡ true
        → go_on paper o (line_text l ++ v) ≡ refused (Cancelling (line_of o))
    cancels_answer =
        let g = going paper o l due in
        let p = value_of g.kind l (due ∙ g.line.due) in
        subst (λ (x : Line). WellFormed x → line_within (count_of o) (limit_at paper o) x ≡ true → line_cancels x ≡ true
        → go_on paper o (line_text x ++ v) ≡ refused (Cancelling (line_of o)))
        p.1 (λ f e c. spelled g.line p.0 v true true f e c)

  -- and to one that is not spelled
  malformed_answer : (o : Opening) (u : List ℕ) → Unspelled o u → (due_kind o ≡ no_line → u ≡ [] → ⊥) → go_on paper o u ≡ refused (Malformed (line_of o))
  malformed_answer o u none more = go u (stage paper o) none more
    where
      go : (u : List ℕ) → Going paper o ⊎ Over paper o → Unspelled o u → (due_kind o ≡ no_line → u ≡ [] → ⊥)
          → go_on paper o u ≡ refused (Malformed (line_of o))
      go u (inl g) none more = unspelled g.line u none
      go [] (inr v) none more = absurd (more v.due refl)
      go (b ∷ u) (inr v) none more = v.followed b u

  -- so a line that fails is answered
  failed_answer : (s : List ℕ) (f : Refusal) → LineFails paper s f → lines_from paper s ≡ refused f
  failed_answer s f (malformed_at line t e) =
      reached paper s t.opening line t.rest t.reached
      ∙ malformed_answer t.opening t.rest t.none t.follows
      ∙ ap (λ (n : ℕ). refused (Malformed n)) (sym t.reached.number)
      ∙ ap refused (sym e)
  failed_answer s f (outside_at line t e) =
      reached paper s t.opening line (line_text t.found ++ t.rest) t.reached
      ∙ outside_answer t.opening t.found t.due t.rest t.formed t.outside
      ∙ ap (λ (n : ℕ). refused (OutOfLimit n)) (sym t.reached.number)
      ∙ ap refused (sym e)
  failed_answer s f (cancels_at line t e) =
      reached paper s t.opening line (line_text t.found ++ t.rest) t.reached
      ∙ cancels_answer t.opening t.found t.due t.rest t.formed t.within t.cancels
      ∙ ap (λ (n : ℕ). refused (Cancelling n)) (sym t.reached.number)
      ∙ ap refused (sym e)

  -- and what is told is
  pub told_answer : (s : List ℕ) (j : Judged Contents) → Tells paper s j → lines_from paper s ≡ j
  told_answer s (accepted c u) t =
      reached paper s (all_of c) (line_of (all_of c)) [] (record {
        text = t.0.text ∙ sheet_lines c ∙ sym (append-nil (lines_text (lines_of (all_of c))));
        fine = t.0.fine;
        most = omega arith;
        number = refl;
      })
      ∙ ended_alone paper c.count c.hiddens (length c.written) c.written (omega arith)
      ∙ ap (accepted c) (sym t.1)
  told_answer s (refused f) t = failed_answer s f t
