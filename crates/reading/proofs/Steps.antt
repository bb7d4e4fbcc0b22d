-- One line read after an opening: where it is spelled, the answer is by its limits and by whether it cancels, and reading goes on after it where
-- it is fine; where none is spelled, it is malformed. Assumes nothing.
use mathlib.Core.Path.{◌≡◌, refl, sym, ◌∙◌, ap, subst}
use mathlib.Core.Bool.{Bool, true, false, cond}
use mathlib.Core.List.{List, [], ◌∷◌, ◌++◌, append_assoc}
use mathlib.Core.Logic.{◌⊎◌, inl, inr}
use Prim.Native.Nat.{ℕ}
use native.Mathlib.Omega.{arith}
use Rattle.numerals.specs.Parsing.{Parsed, parsed, malformed}
use Rattle.rules.specs.declared.paper.Paper.{Paper}
use Rattle.rules.specs.declared.refusal.Refusal.TheVariants.{Malformed, OutOfLimit, Cancelling}
use Rattle.lines.specs.Spelling.{Line, line_text, WellFormed, line_within, line_cancels}
use Rattle.lines.specs.Lines.{accepted, refused, judged}
use Rattle.reading.specs.Texts.{lines_text}
use Rattle.reading.specs.Meaning.{Opening, lines_of, count_of, limit_at, LineKind, line_kind, due_kind, Fine, Reaches}
use Rattle.reading.specs.Reading.{onward}
use Rattle.reading.proofs.Readers.{Value, line_with, reader, line_with_kind, value_of, reader_sound, reader_complete}
use Rattle.reading.proofs.Openings.{line_of, go_on, Due}

-- one line more, and then the bytes that follow
lines_text_append : (ls : List Line) (l : Line) (v : List ℕ) → lines_text (ls ++ l ∷ []) ++ v ≡ lines_text ls ++ (line_text l ++ v)
unfolding lines_text
lines_text_append [] l v = append_assoc (line_text l) [] v
lines_text_append (x ∷ ls) l v =
    append_assoc (line_text x) (lines_text (ls ++ l ∷ [])) v
    ∙ ap (λ (u : List ℕ). line_text x ++ u) (lines_text_append ls l v)
    ∙ sym (append_assoc (line_text x) (lines_text ls) (line_text l ++ v))

-- what is found is not malformed
missed : {A : Type 0} (a : A) (v : List ℕ) → parsed a v ≡ malformed → ⊥
missed a v e = let z : ◌≡◌ {A = ℕ} 0 1 = cc in omega arith

-- no line of the kind due after an opening is spelled here
abbrev pub Unspelled : Opening → List ℕ → Type 0
Unspelled o u = (l : Line) → line_kind l ≡ due_kind o → WellFormed l → (v : List ℕ) → u ≡ line_text l ++ v → ⊥

-- a line of kind k is
pub record Spelled (k : LineKind) (u : List ℕ) : Type 0 where
  pub value : Value k
  pub rest : List ℕ
  pub text : u ≡ line_text (line_with k value) ++ rest
  pub formed : WellFormed (line_with k value)

module _ {paper : Paper} {o : Opening} {k : LineKind} {next : Value k → Opening} (d : Due paper o k next) where
  -- a fine line that is due reaches the next opening
  pub reaches_next : {s : List ℕ} (a : Value k) (v : List ℕ) → Reaches paper s o (line_of o) (line_text (line_with k a) ++ v)
      → Fine (count_of o) (limit_at paper o) (line_with k a) → Reaches paper s (next a) (line_of (next a)) v
  reaches_next a v r f = record {
    text = r.text ∙ sym (lines_text_append (lines_of o) (line_with k a) v) ∙ ap (λ (ls : List Line). lines_text ls ++ v) (sym (d.lines a));
    fine = d.fine a r.fine f;
    most = d.most a r.most;
    number = refl;
  }

  -- one of the two holds
  pub find : (u : List ℕ) → Spelled k u ⊎ Unspelled o u
  find u = go (reader k u) refl
    where
      go : (p : Parsed (Value k)) → reader k u ≡ p → Spelled k u ⊎ Unspelled o u
      go malformed e = inr λ l h f v q.
          let p = value_of k l (h ∙ d.due) in
          missed p.0 v (sym (reader_complete k p.0 v (subst WellFormed (sym p.1) f)) ∙ rw (p.1, ← q) e)
      go (parsed a v) e = let p = reader_sound k u a v e in inl (record { value = a; rest = v; text = p.0; formed = p.1 })

  -- a line that is spelled is answered by its limits, then by whether it cancels; else reading goes on after it
  pub spelled : (a : Value k) (v : List ℕ) (b c : Bool) → WellFormed (line_with k a)
      → line_within (count_of o) (limit_at paper o) (line_with k a) ≡ b → line_cancels (line_with k a) ≡ c
      → go_on paper o (line_text (line_with k a) ++ v)
      ≡ cond b (cond c (refused (Cancelling (line_of o))) (go_on paper (next a) v)) (refused (OutOfLimit (line_of o)))
  unfolding judged onward
  spelled a v b c f e g = d.goes (line_text (line_with k a) ++ v) ∙ rw (reader_complete k a v f, e, g) (go b c)
    where
      go : (b c : Bool)
          → onward (cond b (cond c (refused (Cancelling (line_of o))) (accepted a v)) (refused (OutOfLimit (line_of o))))
          (λ x w. go_on paper (next x) w)
          ≡ cond b (cond c (refused (Cancelling (line_of o))) (go_on paper (next a) v)) (refused (OutOfLimit (line_of o)))
      go true true = refl
      go true false = refl
      go false true = refl
      go false false = refl

  -- where none is spelled, it is malformed
  pub unspelled : (u : List ℕ) → Unspelled o u → go_on paper o u ≡ refused (Malformed (line_of o))
  unfolding judged onward
  unspelled u none = go (reader k u) refl
    where
      go : (p : Parsed (Value k)) → reader k u ≡ p → go_on paper o u ≡ refused (Malformed (line_of o))
      go malformed e = d.goes u ∙ rw e
      go (parsed a v) e =
          let p = reader_sound k u a v e in absurd (none (line_with k a) (line_with_kind k a ∙ sym d.due) p.1 v p.0)
