-- How long the text of a table is that some integers satisfy: of a term's bound and its opposite's at most one is below 0, so at most half of the lines have a minus sign, and the text is never
-- too long for the reader. Assumes nothing.
use mathlib.Core.Path.{◌≡◌, refl, ◌∙◌, ap, ap₂}
use mathlib.Core.Bool.{Bool, true, false, cond}
use mathlib.Core.List.{List}
use Prim.Native.Nat.{ℕ, zero, suc, ◌+◌, ◌-◌, ◌*◌, ◌^◌, ◌≤◌, ◌<◌}
use native.Mathlib.Nat.{add-zero, add-suc}
use native.Mathlib.Numerals.{add-one}
use native.Mathlib.Omega.{arith}
use lib.Dec.{ltb}
use lib.IntN.{ℤ, pos, negsuc, neg_ℤ, ◌+ℤ◌, +ℤ_comm}
use lib.ListN.{length, take, length-append}
use lib.Signed.{◌≤ℤ◌}
use borrow.Author.Tests.{ltb-true, lt-ltb, le-ltb}
use Rattle.integers.specs.Bound.{Within}
use Rattle.integers.proofs.Parts.{positive_part, negative_part, linear, parts_add, parts_neg}
use Rattle.integers.proofs.Within.{within_to}
use Rattle.words.specs.Change.{word_at}
use Rattle.places.specs.Numbering.{block_start, is_one, higher_at, lower_at}
use Rattle.places.proofs.Numbering.{block_start_mono, block_start_suc, block_unique, offset_unique}
use Rattle.rules.specs.declared.rule.Rule.TheVariants.{One, Two}
use Rattle.rules.specs.Limits.{max_quantities, max_text}
use Rattle.rules.specs.Literal.{quantity_of}
use Rattle.rules.specs.Meaning.{Assignment, literal_value, term_value}
use Rattle.rules.proofs.Literals.{value_plus, value_minus}
use Rattle.tables.specs.Places.{rule_at}
use Rattle.tables.specs.Tables.{has_rule}
use Rattle.tables.specs.Meaning.{Satisfies, WordsWithin}
use Rattle.tables.proofs.Values.{meets_at}
use Rattle.numerals.specs.Decimal.{signed_decimal}
use Rattle.numerals.proofs.Decimals.{digit_width, decimal_width}
use Rattle.lines.specs.Spelling.{term_text}
use Rattle.writing.specs.Writing.{literal_term, rule_line_text, table_rules, written_text}
use Rattle.writing.specs.Promises.{max_header}
use Rattle.writing.specs.Inner.{place_text, rules_text, head_text}
use Rattle.writing.proofs.Lines.{term_length, value_one_length, value_two_length, line_length}
use Rattle.writing.proofs.Lengths.{head_short, rules_most}
use Rattle.writing.proofs.Texts.{place_rule, place_none, text_none, text_more_length, written-text}

-- ---- the line of a place

-- the bytes of a literal of quantity q at most: its sign, and one digit below 10, else two
unfoldable term_bytes : ℕ → ℕ
term_bytes q = cond (ltb q 10) 2 3

literal_bytes : (j s : ℕ) → s < 2 → j < max_quantities → length (term_text (literal_term (2 * j + s))) ≤ term_bytes (suc j)
unfolding term_bytes
literal_bytes j s h l = go (ltb (suc j) 10) refl
  where
    go : (b : Bool) → ltb (suc j) 10 ≡ b → length (term_text (literal_term (2 * j + s))) ≤ cond b 2 3
    go true e =
        let q : quantity_of (2 * j + s) < 10 = omega (arith, ltb-true (suc j) 10 e) in
        omega (arith, term_length (2 * j + s), digit_width (quantity_of (2 * j + s)) q)
    go false e = omega (arith, term_length (2 * j + s), decimal_width 1 (quantity_of (2 * j + s)) (omega arith))

-- the line of place k has at most b bytes beside its bound's numeral and the seven of the key, the colon and the line's end
abbrev TermWithin : ℕ → ℕ → Type 0
TermWithin k b = (w : ℤ) → length (rule_line_text (rule_at k w)) ≤ 7 + b + length (signed_decimal w)

-- the two places of quantity j + 1 alone
one_rule : (j s k : ℕ) (w : ℤ) → s < 2 → k ≡ block_start j + s → rule_at k w ≡ One (2 * j + s) w
unfolding rule_at is_one higher_at
one_rule j s k w h e =
    let b = block_unique j (block_start j + s) (omega arith) (omega (arith, block_start_suc j)) in
    rw (e, b, offset_unique j s (omega arith), lt-ltb s 2 h) (ap (λ (x : ℕ). One x w) (omega arith))

one_within : (j s k : ℕ) → s < 2 → j < max_quantities → k ≡ block_start j + s → TermWithin k (term_bytes (suc j))
one_within j s k h l e w = rw (one_rule j s k w h e)
    (omega (arith, line_length (One (2 * j + s) w), value_one_length {x = 2 * j + s} {c = w} refl, literal_bytes j s h l))

-- the four of a lower one with it
two_rule : (j p r s k : ℕ) (w : ℤ) → p < j → r < 2 → s < 2 → k ≡ block_start j + (2 + 4 * p + 2 * r + s) → rule_at k w ≡ Two (2 * p + r) (2 * j + s) w
unfolding rule_at is_one higher_at lower_at
two_rule j p r s k w l g h e =
    let b = block_unique j (block_start j + (2 + 4 * p + 2 * r + s)) (omega arith) (omega (arith, block_start_suc j)) in
    rw (e, b, offset_unique j (2 + 4 * p + 2 * r + s) (omega arith), le-ltb (2 + 4 * p + 2 * r + s) 2 (omega arith))
    (ap₂ (λ (x y : ℕ). Two x y w) (omega arith) (omega arith))

two_within : (j p r s k : ℕ) → p < j → r < 2 → s < 2 → j < max_quantities → k ≡ block_start j + (2 + 4 * p + 2 * r + s)
    → TermWithin k (term_bytes (suc p) + term_bytes (suc j))
two_within j p r s k l g h m e w =
    let a = literal_bytes p r g (omega arith) in
    let b = literal_bytes j s h m in
    rw (two_rule j p r s k w l g h e)
    (omega (arith, line_length (Two (2 * p + r) (2 * j + s) w), value_two_length {x = 2 * p + r} {y = 2 * j + s} {c = w} refl))

-- ---- numerals

-- 19 digits and the sign
one_short : (a : ℤ) → Within (pos (2 ^ 63)) a → length (signed_decimal a) ≤ 20
unfolding signed_decimal positive_part negative_part
one_short (pos v) f = omega (arith, decimal_width 18 v (omega (arith, within_to f)))
one_short (negsuc v) f = omega (arith, decimal_width 18 (suc v) (omega (arith, within_to f)))

-- of two bounds whose terms are opposite one at most has the sign
both_short : (a b v w : ℤ) → Within (pos (2 ^ 63)) a → Within (pos (2 ^ 63)) b → v ≤ℤ a → w ≤ℤ b → v +ℤ w ≡ pos 0
    → length (signed_decimal a) + length (signed_decimal b) ≤ 39
unfolding signed_decimal positive_part negative_part
both_short (pos a) b v w f g h l e = omega (arith, decimal_width 18 a (omega (arith, within_to f)), one_short b g)
both_short (negsuc a) (pos b) v w f g h l e = omega (arith, decimal_width 18 b (omega (arith, within_to g)), one_short (negsuc a) f)
both_short (negsuc a) (negsuc b) v w f g h l e = let z : ⊥ = omega (linear, parts_add v w) in absurd z

-- ---- the sum

-- two lines of opposite terms of at most b bytes
abbrev pair_bytes : ℕ → ℕ
pair_bytes b = 2 * (7 + b) + 39

-- the lines of quantity q with the first p quantities
unfoldable lower_bytes : ℕ → ℕ → ℕ
lower_bytes q zero = 0
lower_bytes q (suc p) = lower_bytes q p + 2 * pair_bytes (term_bytes (suc p) + term_bytes q)

-- the lines of the first n quantities
unfoldable lines_bytes : ℕ → ℕ
lines_bytes zero = 0
lines_bytes (suc j) = lines_bytes j + pair_bytes (term_bytes (suc j)) + lower_bytes (suc j) j

-- more quantities, more bytes
lines_more : (n d : ℕ) → lines_bytes n ≤ lines_bytes (n + d)
unfolding lines_bytes
lines_more n zero = rw (add-zero n) (omega arith)
lines_more n (suc d) = rw (add-suc n d) (omega (arith, lines_more n d))

-- of as many as there can be
abbrev pub max_lines : ℕ
max_lines = 65234

lines_all : lines_bytes max_quantities ≡ max_lines
unfolding lines_bytes lower_bytes term_bytes
lines_all = refl

lines_most : (n : ℕ) → n ≤ max_quantities → lines_bytes n ≤ max_lines
lines_most n h =
    let e : n + (max_quantities - n) ≡ max_quantities = omega arith in
    omega (arith, rw e at (lines_more n (max_quantities - n)), lines_all)

-- ---- a table that some integers satisfy

module _ (n : ℕ) (t : List ℤ) (σ : Assignment) (most : n ≤ max_quantities) (room : block_start n ≤ length t) (within : WordsWithin (block_start n) (pos (2 ^ 63)) t)
    (satisfied : Satisfies n t σ) where
  -- the bytes of the first k places, and those of place k
  abbrev bytes_to : ℕ → ℕ
  bytes_to k = length (rules_text (take k t))

  abbrev bytes_at : ℕ → ℕ
  bytes_at k = length (place_text k (word_at t k))

  -- the terms of two places are opposite
  abbrev Opposite : ℕ → ℕ → Type 0
  Opposite k l = term_value σ (rule_at k (pos 0)) +ℤ term_value σ (rule_at l (pos 0)) ≡ pos 0

  -- their lines
  opposite_bytes : (k l b : ℕ) → k < block_start n → l < block_start n → TermWithin k b → TermWithin l b → Opposite k l → bytes_at k + bytes_at l ≤ pair_bytes b
  opposite_bytes k l b h g f e o = go (has_rule (word_at t k)) refl (has_rule (word_at t l)) refl
    where
      limit : (i : ℕ) → i < block_start n → has_rule (word_at t i) ≡ true → Within (pos (2 ^ 63)) (word_at t i)
      limit i b r = within.each i b (omega arith) r

      met : (i : ℕ) → i < block_start n → has_rule (word_at t i) ≡ true → term_value σ (rule_at i (pos 0)) ≤ℤ word_at t i
      met i b r = meets_at σ i (word_at t i) (satisfied.each i (record { inside = b; there = omega arith; rule = r }))

      go : (c : Bool) → has_rule (word_at t k) ≡ c → (d : Bool) → has_rule (word_at t l) ≡ d → bytes_at k + bytes_at l ≤ pair_bytes b
      go true p true q =
          let both = both_short (word_at t k) (word_at t l) (term_value σ (rule_at k (pos 0))) (term_value σ (rule_at l (pos 0))) (limit k h p) (limit l g q) (met k h p) (met l g q) o in
          rw (place_rule k {d = word_at t k} p refl refl, place_rule l {d = word_at t l} q refl refl) (omega (arith, f (word_at t k), e (word_at t l)))
      go true p false q = rw (place_rule k {d = word_at t k} p refl refl, place_none l (word_at t l) q) (omega (arith, f (word_at t k), one_short (word_at t k) (limit k h p)))
      go false p true q = rw (place_none k (word_at t k) p, place_rule l {d = word_at t l} q refl refl) (omega (arith, e (word_at t l), one_short (word_at t l) (limit l g q)))
      go false p false q = rw (place_none k (word_at t k) p, place_none l (word_at t l) q) (omega arith)

  -- ---- which are opposite

  -- a quantity with + and with -
  literals : (j : ℕ) → literal_value σ (2 * j + 0) +ℤ literal_value σ (2 * j + 1) ≡ pos 0
  unfolding positive_part negative_part
  literals j =
      let q : quantity_of (2 * j + 0) ≡ quantity_of (2 * j + 1) = omega arith in
      let z = σ (quantity_of (2 * j + 1)) in
      rw (value_plus σ (2 * j + 0) (omega arith), value_minus σ (2 * j + 1) (omega arith), q) (omega (linear, parts_add z (neg_ℤ z), parts_neg z))

  -- in either order
  signs : (j s : ℕ) → s < 2 → literal_value σ (2 * j + s) +ℤ literal_value σ (2 * j + (1 - s)) ≡ pos 0
  signs j zero h = literals j
  signs j (suc zero) h = +ℤ_comm (literal_value σ (2 * j + 1)) (literal_value σ (2 * j + 0)) ∙ literals j
  signs j (suc (suc s)) h = let z : ⊥ = omega arith in absurd z

  -- two quantities, both signs turned
  sums : (a b c d : ℤ) → a +ℤ b ≡ pos 0 → c +ℤ d ≡ pos 0 → (a +ℤ c) +ℤ (b +ℤ d) ≡ pos 0
  unfolding positive_part negative_part
  sums a b c d e f = omega (linear, parts_add a b, parts_add c d, parts_add a c, parts_add b d, parts_add (a +ℤ c) (b +ℤ d))

  -- the two lines of a quantity alone
  alone : (j : ℕ) → j < n → bytes_at (block_start j) + bytes_at (block_start j + 1) ≤ pair_bytes (term_bytes (suc j))
  alone j h =
      let last : block_start j + 1 < block_start n = omega (arith, block_start_suc j, block_start_mono {a = suc j} {b = n} h) in
      let first : block_start j ≡ block_start j + 0 = omega arith in
      opposite_bytes (block_start j) (block_start j + 1) (term_bytes (suc j)) (omega arith) last
      (one_within j 0 (block_start j) (omega arith) (omega arith) first) (one_within j 1 (block_start j + 1) (omega arith) (omega arith) refl)
      (rw (one_rule j 0 (block_start j) (pos 0) (omega arith) first, one_rule j 1 (block_start j + 1) (pos 0) (omega arith) refl) (literals j))

  -- two of the four lines of two quantities, the signs being opposite
  crossed : (j p s k l : ℕ) → j < n → p < j → s < 2 → k ≡ block_start j + (2 + 4 * p + s) → l ≡ block_start j + (5 + 4 * p - s)
      → bytes_at k + bytes_at l ≤ pair_bytes (term_bytes (suc p) + term_bytes (suc j))
  crossed j p s k l h b c e f =
      let last : block_start j + (5 + 4 * p) < block_start n = omega (arith, block_start_suc j, block_start_mono {a = suc j} {b = n} h) in
      let d : k ≡ block_start j + (2 + 4 * p + 2 * 0 + s) = omega arith in
      let g : l ≡ block_start j + (2 + 4 * p + 2 * 1 + (1 - s)) = omega arith in
      opposite_bytes k l (term_bytes (suc p) + term_bytes (suc j)) (omega arith) (omega arith)
      (two_within j p 0 s k b (omega arith) c (omega arith) d) (two_within j p 1 (1 - s) l b (omega arith) (omega arith) (omega arith) g)
      (rw (two_rule j p 0 s k (pos 0) b (omega arith) c d, two_rule j p 1 (1 - s) l (pos 0) b (omega arith) (omega arith) g)
      (sums (literal_value σ (2 * p + 0)) (literal_value σ (2 * p + 1)) (literal_value σ (2 * j + s)) (literal_value σ (2 * j + (1 - s))) (literals p) (signs j s c)))

  -- ---- block by block

  -- one place more
  more : (k : ℕ) → k < block_start n → bytes_to (k + 1) ≡ bytes_to k + bytes_at k
  more k h = rw (add-one k) (text_more_length k t (omega arith))

  -- the block of quantity j + 1 up to the places of its first p lower quantities
  lower : (j p : ℕ) → j < n → p ≤ j → bytes_to (block_start j + 2 + 4 * p) ≤ bytes_to (block_start j) + pair_bytes (term_bytes (suc j)) + lower_bytes (suc j) p
  unfolding lower_bytes
  lower j zero h l =
      let inside : block_start j + 2 ≤ block_start n = omega (arith, block_start_suc j, block_start_mono {a = suc j} {b = n} h) in
      let e : block_start j + 2 + 4 * 0 ≡ block_start j + 1 + 1 = omega arith in
      rw e (omega (arith, more (block_start j) (omega arith), more (block_start j + 1) (omega arith), alone j h))
  lower j (suc p) h l =
      let inside : from + 4 ≤ block_start n = omega (arith, block_start_suc j, block_start_mono {a = suc j} {b = n} h) in
      let e : block_start j + 2 + 4 * suc p ≡ from + 1 + 1 + 1 + 1 = omega arith in
      let outer = crossed j p 0 from (from + 1 + 1 + 1) h (omega arith) (omega arith) (omega arith) (omega arith) in
      let inner = crossed j p 1 (from + 1) (from + 1 + 1) h (omega arith) (omega arith) (omega arith) (omega arith) in
      rw e (omega (arith, more from (omega arith), more (from + 1) (omega arith), more (from + 1 + 1) (omega arith), more (from + 1 + 1 + 1) (omega arith), lower j p h (omega arith)))
    where
      from : ℕ
      from = block_start j + 2 + 4 * p

  -- all blocks before that of quantity j + 1
  blocks_none : bytes_to (block_start 0) ≤ lines_bytes 0
  unfolding block_start lines_bytes
  blocks_none = omega (arith, ap length (text_none t))

  blocks : (j : ℕ) → j ≤ n → bytes_to (block_start j) ≤ lines_bytes j
  unfolding lines_bytes
  blocks zero h = blocks_none
  blocks (suc j) h =
      let e : block_start (suc j) ≡ block_start j + 2 + 4 * j = omega (arith, block_start_suc j) in
      rw e (omega (arith, blocks j (omega arith), lower j j h (omega arith)))

  -- the text has 65,353 bytes at most, whatever is hidden
  pub satisfied_length : (set : ℕ) → length (written_text n set t) ≤ max_header + max_lines
  satisfied_length set =
      omega (
        arith,
        ap length (written-text n set t),
        length-append (head_text n set (length (table_rules n t))) (rules_text (take (block_start n) t)),
        head_short n set (length (table_rules n t)) most (rules_most n t most),
        blocks n (omega arith),
        lines_most n most,
      )

  -- so it may be read
  pub satisfied_short : (set : ℕ) → length (written_text n set t) ≤ max_text
  satisfied_short set = omega (arith, satisfied_length set)
