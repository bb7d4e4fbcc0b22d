-- What the lines of a text are answered with is what the spellings say: one line after the other, then the end. Assumes nothing.
use mathlib.Core.Path.{◌≡◌, refl, sym, ◌∙◌, ap, subst}
use mathlib.Core.Bool.{Bool, true, false, cond}
use mathlib.Core.List.{List, [], ◌∷◌, ◌++◌, append-nil}
use mathlib.Core.Logic.{◌⊎◌, inl, inr}
use Prim.Native.Nat.{ℕ, zero, suc, ◌+◌, ◌≤◌}
use native.Mathlib.Omega.{arith}
use lib.Dec.{ltb}
use lib.ListN.{length, length-append}
use borrow.Author.Tests.{ltb-true, ltb-false}
use Rattle.rules.specs.declared.paper.Paper.{Paper}
use Rattle.rules.specs.declared.refusal.Refusal.TheVariants.{OutOfLimit, Cancelling}
use Rattle.lines.specs.Spelling.{Written, line_text, WellFormed, line_within, line_cancels}
use Rattle.lines.specs.Lines.{Judged, accepted, refused}
use Rattle.reading.specs.Texts.{Contents, lines_text}
use Rattle.reading.specs.Meaning.{Opening, counted, headed, ruled, lines_of, count_of, limit_at, LineKind, AllFine, Reaches, contents_limit, Spells, LineFails, malformed_at, outside_at, cancels_at}
use Rattle.reading.specs.Reading.{lines_from}
use Rattle.reading.proofs.Readers.{Value, line_with, line_with_kind, some_kind}
use Rattle.reading.proofs.Openings.{line_of, go_on, Due, due_start, due_counted, due_headed, due_ruled}
use Rattle.reading.proofs.Steps.{Spelled, Unspelled, reaches_next, find, spelled, unspelled}
use Rattle.reading.proofs.Ending.{sheet_lines, ended_due, ended_alone, ended_followed}

-- what the lines of a text are to be answered with
abbrev pub Tells : Paper → List ℕ → Judged Contents → Type 0
Tells paper s (accepted c u) = Spells (contents_limit paper c) s c × (u ≡ [])
Tells paper s (refused f) = LineFails paper s f

-- the text s begins with the lines of an opening, and goes on with these bytes
abbrev At : Paper → List ℕ → Opening → List ℕ → Type 0
At paper s o u = Reaches paper s o (line_of o) u

module _ (paper : Paper) (s : List ℕ) where
  -- ---- the end

  ended_tells : (n : ℕ) (qs : List ℕ) (m : ℕ) (rs : List Written) (u : List ℕ) → m ≤ length rs
      → At paper s (ruled n qs m rs) u → Tells paper s (go_on paper (ruled n qs m rs) u)
  ended_tells n qs m rs [] h r =
      let all : m ≡ length rs = omega (arith, r.most) in
      subst (Tells paper s) (sym (ended_alone paper n qs m rs h)) (
        record {
          text = r.text ∙ append-nil (lines_text (lines_of (ruled n qs m rs))) ∙ ap (λ (k : ℕ). lines_text (lines_of (ruled n qs k rs))) all
              ∙ sym (sheet_lines (record { count = n; hiddens = qs; written = rs }));
          fine = subst (λ (k : ℕ). AllFine n (limit_at paper (ruled n qs m rs)) (lines_of (ruled n qs k rs))) all r.fine;
        },
        refl,
      )
  ended_tells n qs m rs (b ∷ u) h r = subst (Tells paper s) (sym (ended_followed paper n qs m rs h b u)) (malformed_at (line_of (ruled n qs m rs)) (record {
    opening = ruled n qs m rs;
    rest = b ∷ u;
    reached = r;
    none = λ l e f v q. some_kind l (e ∙ ended_due paper n qs m rs h);
    follows = λ e q. let z : ◌≡◌ {A = ℕ} 0 1 = cc in omega arith;
  }) refl)

  -- ---- a line, and what is told after it

  module _ {o : Opening} {k : LineKind} {next : Value k → Opening} (d : Due paper o k next)
      (after : (a : Value k) (v : List ℕ) → At paper s (next a) v → Tells paper s (go_on paper (next a) v)) where
    -- the answer to a line that is spelled
    answer_tells : (a : Value k) (v : List ℕ) → At paper s o (line_text (line_with k a) ++ v) → WellFormed (line_with k a)
        → (b : Bool) → line_within (count_of o) (limit_at paper o) (line_with k a) ≡ b → (c : Bool) → line_cancels (line_with k a) ≡ c
        → Tells paper s (cond b (cond c (refused (Cancelling (line_of o))) (go_on paper (next a) v)) (refused (OutOfLimit (line_of o))))
    answer_tells a v r f false e c g = outside_at (line_of o) (record {
      opening = o;
      found = line_with k a;
      rest = v;
      reached = r;
      due = line_with_kind k a ∙ sym d.due;
      formed = f;
      outside = e;
    }) refl
    answer_tells a v r f true e true g = cancels_at (line_of o) (record {
      opening = o;
      found = line_with k a;
      rest = v;
      reached = r;
      due = line_with_kind k a ∙ sym d.due;
      formed = f;
      within = e;
      cancels = g;
    }) refl
    answer_tells a v r f true e false g = after a v (reaches_next d a v r (record { formed = f; within = e; uncancelled = g }))

    -- a line that is spelled, and then any line
    spelled_tells : (a : Value k) (v : List ℕ) → At paper s o (line_text (line_with k a) ++ v) → WellFormed (line_with k a)
        → Tells paper s (go_on paper o (line_text (line_with k a) ++ v))
    spelled_tells a v r f =
        subst (Tells paper s) (sym (spelled d a v _ _ f refl refl))
        (answer_tells a v r f (line_within (count_of o) (limit_at paper o) (line_with k a)) refl (line_cancels (line_with k a)) refl)

    step_tells : (u : List ℕ) → At paper s o u → Tells paper s (go_on paper o u)
    step_tells u r = go (find d u)
      where
        go : Spelled k u ⊎ Unspelled o u → Tells paper s (go_on paper o u)
        go (inl p) =
            subst (λ (w : List ℕ). Tells paper s (go_on paper o w)) (sym p.text)
            (spelled_tells p.value p.rest (subst (At paper s o) p.text r) p.formed)
        go (inr none) = subst (Tells paper s) (sym (unspelled d u none)) (malformed_at (line_of o) (record {
          opening = o;
          rest = u;
          reached = r;
          none = none;
          follows = λ e q. d.some (sym d.due ∙ e);
        }) refl)

  -- ---- each opening in turn, from the last

  -- one rule, or the end
  rule_tells : (n : ℕ) (qs : List ℕ) (m : ℕ) (rs : List Written) (u : List ℕ)
      → ((a : Written) (v : List ℕ) → At paper s (ruled n qs m (rs ++ a ∷ [])) v → Tells paper s (go_on paper (ruled n qs m (rs ++ a ∷ [])) v))
      → At paper s (ruled n qs m rs) u → Tells paper s (go_on paper (ruled n qs m rs) u)
  rule_tells n qs m rs u after r = go (ltb (length rs) m) refl
    where
      go : (b : Bool) → ltb (length rs) m ≡ b → Tells paper s (go_on paper (ruled n qs m rs) u)
      go true e = step_tells (due_ruled paper n qs m rs (ltb-true (length rs) m e)) after u r
      go false e = ended_tells n qs m rs u (ltb-false (length rs) m e) r

  -- at most k rules are left
  rules_tell : (k n : ℕ) (qs : List ℕ) (m : ℕ) (rs : List Written) (u : List ℕ) → m ≤ length rs + k
      → At paper s (ruled n qs m rs) u → Tells paper s (go_on paper (ruled n qs m rs) u)
  rules_tell zero n qs m rs u h r = ended_tells n qs m rs u (omega arith) r
  rules_tell (suc k) n qs m rs u h r =
      rule_tells n qs m rs u (λ a v. rules_tell k n qs m (rs ++ a ∷ []) v (omega (arith, length-append rs (a ∷ [])))) r

  headed_tells : (n : ℕ) (qs u : List ℕ) → At paper s (headed n qs) u → Tells paper s (go_on paper (headed n qs) u)
  headed_tells n qs = step_tells (due_headed paper n qs) (λ m v. rules_tell m n qs m [] v (omega arith))

  counted_tells : (n : ℕ) (u : List ℕ) → At paper s (counted n) u → Tells paper s (go_on paper (counted n) u)
  counted_tells n = step_tells (due_counted paper n) (headed_tells n)

  -- so the answer is what the lines tell
  pub lines_tell : Tells paper s (lines_from paper s)
  unfolding go_on lines_text
  lines_tell = step_tells (due_start paper) counted_tells s (record { text = refl; fine = tt; most = tt; number = refl })
