-- What is printed tells the reply: a refusal's text its number, its line and, for *mark*, its paper; a verdict's text its number; and no text of a key or a
-- verdict is a refusal's. Assumes nothing.
use Rattle.std.specs.Prelude.{Ok, Err}
use mathlib.Core.Path.{◌≡◌, refl, sym, ◌∙◌, ap}
use mathlib.Core.Bool.{true, cond}
use mathlib.Core.Logic.{inl, inr}
use mathlib.Core.List.{List, [], ◌∷◌, ◌++◌, append_assoc, append-nil}
use Prim.Native.Nat.{ℕ}
use native.Mathlib.Omega.{arith}
use lib.IntN.{ℤ}
use lib.Dec.{eqb}
use lib.ListN.{length, get_or, drop}
use lib.Seq.{drop-append_seam}
use Rattle.rules.specs.declared.refusal.Refusal.{Refusal}
use Rattle.rules.specs.declared.paper.Paper.{Paper}
use Rattle.rules.specs.Refusal.{refusal_number, refusal_line}
use Rattle.rules.proofs.Refusals.{same_refusal_line}
use Rattle.numerals.specs.Bytes.{newline}
use Rattle.numerals.specs.Decimal.{decimal}
use Rattle.numerals.specs.Parsing.{parsed}
use Rattle.lines.specs.Lines.{count_line}
use Rattle.lines.specs.Spelling.{line_text}
use Rattle.lines.proofs.Spellings.{count_complete}
use Rattle.reading.specs.Texts.{lines_text, header_text, sheet_text}
use Rattle.reading.specs.Meaning.{malformed_at, outside_at, cancels_at, FailsFor}
use Rattle.marking.specs.declared.verdict.Verdict.{Verdict}
use Rattle.marking.specs.declared.verdict.Verdict.TheVariants.{Equal, Loose, Tight}
use Rattle.marking.specs.Verdicts.{verdict_number}
use Rattle.writing.specs.Writing.{written_text, count_text}
use Rattle.scripts.specs.declared.reply.Subject.{Subject}
use Rattle.scripts.specs.declared.reply.Subject.TheVariants.{Sheet, Script, Both}
use Rattle.scripts.specs.Replies.{TextMarking, refused_for, text_number, is_text_marked}
use Rattle.reports.specs.Refusals.{refused_key, line_key, where_text, refusal_text}
use Rattle.reports.specs.Marks.{word_text, verdict_text, paper_key, paper_name, refused_mark_text, mark_text}

-- ---- the number and the line

-- what is read and what follows it, of one answer
pub parsed_same : {A : Type 0} {v w : A} {t u : List ℕ} → parsed v t ≡ parsed w u → (v ≡ w) × (t ≡ u)
parsed_same e = (cc, cc)

-- what follows the same bytes
pub rest_same : (s t u : List ℕ) → s ++ t ≡ s ++ u → t ≡ u
rest_same s t u e = sym (drop-append_seam s t) ∙ ap (drop (length s)) e ∙ drop-append_seam s u

-- a line of a key and a number is read as the number
number_read : (key : List ℕ) (v : ℕ) (u : List ℕ) → count_line key (count_text key v ++ u) ≡ parsed v u
unfolding count_text
number_read key v u =
    ap (count_line key) (append_assoc key (decimal v ++ newline ∷ []) u ∙ ap (λ (t : List ℕ). key ++ t) (append_assoc (decimal v) (newline ∷ []) u))
    ∙ count_complete key v u

-- so lines that are the same, whatever follows, have one number
number_same : (key : List ℕ) (v w : ℕ) (t u : List ℕ) → count_text key v ++ t ≡ count_text key w ++ u → (v ≡ w) × (t ≡ u)
number_same key v w t u e = parsed_same (sym (number_read key v t) ∙ ap (count_line key) e ∙ number_read key w u)

-- the last line of a refusal's text tells the line
line_same : (f g : Refusal) → where_text f ≡ where_text g → refusal_line f ≡ refusal_line g
line_same f g e = (number_same line_key (refusal_line f) (refusal_line g) [] [] (append-nil (where_text f) ∙ e ∙ sym (append-nil (where_text g)))).0

-- so the text tells both
text_tells : (f g : Refusal) → refusal_text f ≡ refusal_text g → (refusal_number f ≡ refusal_number g) × (refusal_line f ≡ refusal_line g)
unfolding refusal_text
text_tells f g e =
    let d = number_same refused_key (refusal_number f) (refusal_number g) (where_text f) (where_text g) e in
    (d.0, line_same f g d.1)

-- so it tells a refusal whose number is not 6, which has a length beside it that is not printed
pub refusal_same : (f g : Refusal) → (refusal_number f ≡ 6 → ⊥) → refusal_text f ≡ refusal_text g → f ≡ g
refusal_same f g h e = let t = text_tells f g e in same_refusal_line f g h t.0 t.1

-- as a text's own refusals have
pub fails_number : (paper : Paper) (s : List ℕ) (f : Refusal) → FailsFor paper s f → (refusal_number f ≡ 5 → ⊥) × (refusal_number f ≡ 6 → ⊥)
fails_number paper s f (inl x) = let n = ap refusal_number x.1 in (λ e. omega arith, λ e. omega arith)
fails_number paper s f (inr (l, malformed_at line m x)) = let n = ap refusal_number x in (λ e. omega arith, λ e. omega arith)
fails_number paper s f (inr (l, outside_at line m x)) = let n = ap refusal_number x in (λ e. omega arith, λ e. omega arith)
fails_number paper s f (inr (l, cancels_at line m x)) = let n = ap refusal_number x in (λ e. omega arith, λ e. omega arith)

-- ---- no key's text is a refusal's

-- `q` and `r` are their first bytes
pub text_unlike : (n set : ℕ) (t : List ℤ) (f : Refusal) → written_text n set t ≡ refusal_text f → ⊥
unfolding written_text sheet_text header_text lines_text line_text refusal_text count_text
text_unlike n set t f e = let z : ◌≡◌ {A = ℕ} 113 114 = ap (λ (u : List ℕ). get_or u 0 0) e in omega arith

-- ---- *mark*: the paper

-- the line of a paper, `paper=sheet`, `paper=script` or `paper=both`
abbrev paper_line : Subject → List ℕ
paper_line p = word_text paper_key (paper_name p)

-- the paper whose name has this second letter
abbrev lettered : ℕ → Subject
lettered b = cond (eqb b 104) Sheet (cond (eqb b 99) Script Both)

-- is the one of the line
paper_read : (p : Subject) (u : List ℕ) → lettered (get_or (paper_line p ++ u) 7 0) ≡ p
unfolding word_text
paper_read Sheet u = refl
paper_read Script u = refl
paper_read Both u = refl

-- so lines that are the same, whatever follows, have one paper
paper_same : (p q : Subject) (t u : List ℕ) → paper_line p ++ t ≡ paper_line q ++ u → (p ≡ q) × (t ≡ u)
paper_same p q t u e =
    let d = sym (paper_read p t) ∙ ap (λ (s : List ℕ). lettered (get_or s 7 0)) e ∙ paper_read q u in
    (d, rest_same (paper_line p) t u (e ∙ ap (λ (r : Subject). paper_line r ++ u) (sym d)))

-- a refusal's text tells the paper, and the refusal where its number is not 6
pub refused_same : (p q : Subject) (f g : Refusal) → (refusal_number f ≡ 6 → ⊥) → refused_mark_text p f ≡ refused_mark_text q g → (p ≡ q) × (f ≡ g)
unfolding refused_mark_text
refused_same p q f g h e =
    let d = number_same refused_key (refusal_number f) (refusal_number g) (paper_line p ++ where_text f) (paper_line q ++ where_text g) e in
    let b = paper_same p q (where_text f) (where_text g) d.1 in
    (b.0, same_refusal_line f g h d.0 (line_same f g b.1))

-- ---- *mark*: the verdict

-- the number whose verdict has a name with this first letter
abbrev numbered : ℕ → ℕ
numbered b = cond (eqb b 101) 100 (cond (eqb b 108) 101 102)

-- is the one of the text
verdict_read : (v : Verdict) (values : List ℤ) → numbered (get_or (verdict_text v values) 8 0) ≡ verdict_number v
unfolding verdict_text word_text
verdict_read Equal values = refl
verdict_read (Loose r) values = refl
verdict_read (Tight r) values = refl

-- so a verdict's text tells its number
pub verdict_same : (v w : Verdict) (s t : List ℤ) → verdict_text v s ≡ verdict_text w t → verdict_number v ≡ verdict_number w
verdict_same v w s t e = sym (verdict_read v s) ∙ ap (λ (u : List ℕ). numbered (get_or u 8 0)) e ∙ verdict_read w t

-- and is no refusal's: `v` and `r` are their first bytes
pub verdict_unlike : (v : Verdict) (s : List ℤ) (p : Subject) (f : Refusal) → verdict_text v s ≡ refused_mark_text p f → ⊥
unfolding verdict_text word_text refused_mark_text count_text
verdict_unlike v s p f e = let z : ◌≡◌ {A = ℕ} 118 114 = ap (λ (u : List ℕ). get_or u 0 0) e in omega arith

-- ---- *mark*: the reply

-- a refusal's text is printed for that refusal alone
pub refusal_told : (r : TextMarking) (values : List ℤ) (p : Subject) (f : Refusal) → (text_number r ≡ 6 → ⊥) → mark_text r values ≡ refused_mark_text p f
    → r ≡ refused_for p f
unfolding mark_text
refusal_told (Ok m) values p f h e = absurd (verdict_unlike m.verdict _ p f e)
refusal_told (Err x) values p f h e = let d = refused_same x.paper p x.refusal f h e in rw (← d.0, ← d.1)

-- a verdict's for no refusal
pub verdict_told : (r : TextMarking) (values : List ℤ) (v : Verdict) (s : List ℤ) → mark_text r values ≡ verdict_text v s → is_text_marked r ≡ true
unfolding mark_text
verdict_told (Ok m) values v s e = refl
verdict_told (Err x) values v s e = absurd (verdict_unlike v s x.paper x.refusal (sym e))
