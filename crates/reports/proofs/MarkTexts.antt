-- What *mark* prints, by the parts that are written one after the other, and how long it is at most. Assumes nothing.
use mathlib.Core.Path.{◌≡◌, refl, sym, ◌∙◌, ap}
use mathlib.Core.List.{List, [], ◌∷◌, ◌++◌, append_assoc, append-nil}
use Prim.Native.Nat.{ℕ, zero, suc, ◌+◌, ◌*◌, ◌^◌, ◌≤◌, ◌<◌}
use native.Mathlib.Numerals.{add-one}
use native.Mathlib.Omega.{arith}
use lib.IntN.{ℤ, pos}
use lib.ListN.{length, take, drop, length-append}
use lib.Seq.{take-suc}
use Rattle.std.proofs.lemmas.List.{take-append-drop}
use Rattle.integers.proofs.Within.{within_word}
use Rattle.words.specs.Change.{word_at}
use Rattle.places.specs.Numbering.{block_start}
use Rattle.numerals.specs.Bytes.{newline, comma}
use Rattle.numerals.specs.Decimal.{signed_decimal}
use Rattle.rules.specs.declared.rule.Rule.{Rule}
use Rattle.rules.specs.declared.refusal.Refusal.{Refusal}
use Rattle.rules.specs.Limits.{max_quantities}
use Rattle.rules.specs.Refusal.{refusal_line}
use Rattle.tables.specs.Meaning.{rule_in, Solutions, WordsWithin}
use Rattle.tables.proofs.Places.{rule_at_bound, rule_at_has_place}
use Rattle.elimination.specs.Magnitude.{ValuesWithin}
use Rattle.marking.specs.declared.verdict.Verdict.{Verdict}
use Rattle.marking.specs.Meaning.{FirstBroken}
use Rattle.writing.specs.Writing.{rule_line_text}
use Rattle.writing.specs.Promises.{max_line}
use Rattle.writing.proofs.Lines.{word_width, word_short, line_short}
use Rattle.scripts.specs.declared.reply.Subject.{Subject}
use Rattle.scripts.specs.declared.reply.Subject.TheVariants.{Sheet as OfSheet, Script as OfScript, Both as OfBoth}
use Rattle.reports.specs.Refusals.{number_text, where_text}
use Rattle.reports.specs.Marks.{
  verdict_key,
  values_key,
  paper_key,
  word_text,
  further_text,
  integers_text,
  values_text,
  shown_text,
  verdict_name,
  carried_text,
  verdict_text,
  paper_name,
  refused_mark_text,
}
use Rattle.reports.proofs.RefusalLengths.{refusal_parts, refusal_width}

-- ---- a line of a key and a word

-- as it is written
pub word-text : (key word : List ℕ) → word_text key word ≡ key ++ word ++ newline ∷ []
unfolding word_text
word-text key word = sym (append_assoc key word (newline ∷ []))

-- its length
pub word_length : (key word : List ℕ) → length (word_text key word) ≡ length key + length word + 1
unfolding word_text
word_length key word = simp length-append (omega arith)

-- ---- integers joined by commas

-- further integers and more after them
further_append : (s t : List ℤ) → further_text (s ++ t) ≡ further_text s ++ further_text t
unfolding further_text
further_append [] t = refl
further_append (v ∷ s) t =
    rw (further_append s t) (ap (λ (u : List ℕ). comma ∷ u) (sym (append_assoc (signed_decimal v) (further_text s) (further_text t))))

-- one word more is one comma and one numeral more
pub further_more : (k : ℕ) (t : List ℤ) → k < length t → further_text (take (k + 1) t) ≡ further_text (take k t) ++ comma ∷ [] ++ signed_decimal (word_at t k)
unfolding further_text
further_more k t h =
    rw (add-one k, take-suc t k (pos 0) h)
    (further_append (take k t) (word_at t k ∷ []) ∙ rw (append-nil (signed_decimal (word_at t k))) (simp append_assoc))

-- so many words and one more are no longer than all
pub further_room : (k : ℕ) (t : List ℤ) → k < length t → length (further_text (take k t)) + 1 + length (signed_decimal (word_at t k)) ≤ length (further_text t)
further_room k t h =
    let more = ap (λ (u : List ℕ). length u) (further_more k t h) in
    let all = ap (λ (u : List ℤ). length (further_text u)) (sym (take-append-drop (k + 1) t)) ∙ ap (λ (u : List ℕ). length u) (further_append (take (k + 1) t) (drop (k + 1) t)) in
    omega (arith, simp length-append at more, simp length-append at all)

-- no words, no text
pub integers_none : (s : List ℤ) → length s ≡ 0 → integers_text s ≡ []
unfolding integers_text
integers_none [] e = refl
integers_none (v ∷ s) e = absurd (omega arith)

-- the first word's numeral, and then the others
pub integers-text : {v : ℤ} {s t : List ℤ} → s ≡ v ∷ t → integers_text s ≡ signed_decimal v ++ further_text t
unfolding integers_text
integers-text e = rw e

-- their length
pub integers_length : {v : ℤ} {s t : List ℤ} → s ≡ v ∷ t → length (integers_text s) ≡ length (signed_decimal v) + length (further_text t)
integers_length {v} {s} {t} e = rw (integers-text e) (length-append (signed_decimal v) (further_text t))

-- none after the first are written
pub further_none : (t : List ℤ) → further_text (take 0 t) ≡ []
unfolding further_text
further_none t = refl

-- ---- the assignment's line, and what follows the first line of loose and tight

-- the key, the integers and the line's end
pub values-text : (s : List ℤ) → values_text s ≡ values_key ++ integers_text s ++ newline ∷ []
unfolding values_text
values-text s = word-text values_key (integers_text s)

-- its length
pub values_length : (s : List ℤ) → length (values_text s) ≡ 8 + length (integers_text s)
unfolding values_text
values_length s = word_length values_key (integers_text s) ∙ omega arith

-- the rule's line and the assignment's, by their lengths
pub shown_length : (r : Rule) (s : List ℤ) → length (shown_text r s) ≡ length (rule_line_text r) + length (values_text s)
unfolding shown_text
shown_length r s = length-append (rule_line_text r) (values_text s)

-- ---- the verdict and the refusal

-- the first line and what follows it
pub verdict-text : {v w : Verdict} (s : List ℤ) → v ≡ w → verdict_text v s ≡ word_text verdict_key (verdict_name w) ++ carried_text w s
unfolding verdict_text
verdict-text s e = rw e

-- its length
pub verdict_length : {v w : Verdict} (s : List ℤ) → v ≡ w
    → length (verdict_text v s) ≡ length (word_text verdict_key (verdict_name w)) + length (carried_text w s)
verdict_length {v} {w} s e = rw (verdict-text s e) (length-append (word_text verdict_key (verdict_name w)) (carried_text w s))

-- the lines of a refusal one after the other
pub refused_text : (p : Subject) (f : Refusal) → refused_mark_text p f ≡ number_text f ++ word_text paper_key (paper_name p) ++ where_text f
unfolding refused_mark_text
refused_text p f = sym (append_assoc (number_text f) (word_text paper_key (paper_name p)) (where_text f))

-- the length of them
pub refused_length : (p : Subject) (f : Refusal)
    → length (refused_mark_text p f) ≡ length (number_text f) + length (word_text paper_key (paper_name p)) + length (where_text f)
refused_length p f = rw (refused_text p f) (simp length-append)

-- ---- how long it is at most

-- the numerals of the first k words are those of words
abbrev ShortWords : ℕ → List ℤ → Type 0
ShortWords k t = (j : ℕ) → j < k → length (signed_decimal (word_at t j)) ≤ word_width

-- and have a comma before each
further_short : (k : ℕ) (t : List ℤ) → ShortWords k t → length (further_text (take k t)) ≤ (1 + word_width) * k
unfolding further_text
further_short zero t f = omega arith
further_short (suc k) [] f = omega arith
further_short (suc k) (v ∷ t) f =
    rw (length-append (signed_decimal v) (further_text (take k t)))
    (omega (arith, f 0 (omega arith), further_short k t (λ j h. f (suc j) (omega arith))))

-- joined by commas they have no more bytes than with a comma before each
integers_further : (s : List ℤ) → length (integers_text s) ≤ length (further_text s)
unfolding integers_text further_text
integers_further [] = omega arith
integers_further (v ∷ s) = omega arith

-- the line of an assignment: its key and its end, and a comma and a numeral for each quantity
abbrev pub max_values : ℕ
max_values = 8 + (1 + word_width) * max_quantities

-- that of one in its range is no longer
pub values_short : (n : ℕ) (values : List ℤ) → n ≤ max_quantities → ValuesWithin n values → length (values_text (take n values)) ≤ max_values
values_short n values h f =
    let words : ShortWords n values = λ j l. word_short (word_at values j) (within_word (omega arith) (f j l)) in
    omega (arith, values_length (take n values), integers_further (take n values), further_short n values words)

-- the line of a rule of a table whose bounds are words is no longer than one of a text
pub broken_short : {n : ℕ} {rules : List ℤ} {paper : Solutions} {r : Rule} (B : ℕ) → FirstBroken n rules paper r → n ≤ max_quantities
    → B < 2 ^ 63 → WordsWithin (block_start n) (pos B) rules → length (rule_line_text r) ≤ max_line
broken_short {n} {rules} {paper} {r} B f h g w =
    let k = f.place in
    let p = f.at.holds in
    let width = word_short (word_at rules k) (within_word g (w.each k p.inside p.there p.rule)) in
    rw f.is (line_short n word_width (rule_in rules k) h (rule_at_has_place n k (word_at rules k) p.inside) (rw (rule_at_bound k (word_at rules k)) width))

-- the name of a paper has at most 6 bytes
name_short : (p : Subject) → length (paper_name p) ≤ 6
name_short OfSheet = omega arith
name_short OfScript = omega arith
name_short OfBoth = omega arith

-- the text of a refusal whose line has at most four digits has at most 34 bytes
pub refused_short : (p : Subject) (f : Refusal) → refusal_line f < 10 ^ 4 → length (refused_mark_text p f) ≤ 34
refused_short p f h =
    omega (arith, refused_length p f, refusal_parts f, refusal_width 3 f h, word_length paper_key (paper_name p), name_short p)
