-- How long what is written is at most: the rules' lines, the hidden list, the header and the text. Assumes nothing.
use mathlib.Core.Path.{◌≡◌, refl}
use mathlib.Core.Bool.{Bool, true, false, cond}
use mathlib.Core.List.{List, [], ◌∷◌}
use Prim.Native.Nat.{ℕ, zero, suc, ◌+◌, ◌-◌, ◌*◌, ◌≤◌, ◌<◌}
use native.Mathlib.Nat.{mul-le-mul_right}
use native.Mathlib.Omega.{arith}
use lib.IntN.{ℤ, pos, negsuc}
use lib.ListN.{length, take, length-append, length-take}
use Rattle.integers.specs.Bound.{Within}
use Rattle.integers.proofs.Within.{within_to}
use Rattle.integers.proofs.Parts.{positive_part, negative_part}
use Rattle.words.specs.Change.{word_at}
use Rattle.places.specs.Numbering.{block_start}
use Rattle.rules.specs.Hidden.{hidden_in}
use Rattle.rules.specs.declared.paper.Paper.TheVariants.{Sheet}
use Rattle.rules.specs.Limits.{bound_limit, max_quantities, max_bound, max_rules, max_text}
use Rattle.tables.specs.Places.{rule_at}
use Rattle.tables.specs.Tables.{has_rule}
use Rattle.tables.specs.Meaning.{WordsWithin}
use Rattle.tables.proofs.Places.{rule_at_bound, rule_at_has_place}
use Rattle.tables.proofs.Sizes.{small_start}
use Rattle.numerals.specs.Decimal.{decimal_up_to, decimal, signed_decimal}
use Rattle.numerals.proofs.Decimals.{decimal_width, signed-width}
use Rattle.lines.specs.Spelling.{Written, joined_text, list_text, value_text, line_text}
use Rattle.reading.specs.Texts.{rule_lines, lines_text, header_text, sheet_text}
use Rattle.writing.specs.Writing.{written_of, rule_line_text, rules_at, table_rules, hidden_from, hidden_list, contents_of, written_text}
use Rattle.writing.specs.Promises.{max_header, max_written}
use Rattle.writing.specs.Inner.{head_text}
use Rattle.writing.proofs.Meanings.{front_word, AreWords}
use Rattle.writing.proofs.Lines.{line_beside, word_width, place_line, word_short, line_short}

-- ---- the rules' lines

-- no more rules than words
pub rules_count : (i : ℕ) (t : List ℤ) → length (rules_at i t) ≤ length t
unfolding rules_at
rules_count i [] = omega arith
rules_count i (w ∷ t) = go (rules_count (suc i) t) (has_rule w)
  where
    go : length (rules_at (suc i) t) ≤ length t → (b : Bool)
        → length (cond b (written_of (rule_at i w) ∷ rules_at (suc i) t) (rules_at (suc i) t)) ≤ suc (length t)
    go ih true = omega arith
    go ih false = omega arith

-- the numeral of each of the first m words that holds a rule has at most k bytes
abbrev pub NumeralsWithin : ℕ → ℕ → List ℤ → Type 0
NumeralsWithin m k t = (j : ℕ) → j < m → j < length t → has_rule (word_at t j) ≡ true → length (signed_decimal (word_at t j)) ≤ k

-- the lines of words from place i on, by the rules that they hold
pub lines_length : (n k i : ℕ) (t : List ℤ) → n ≤ max_quantities → i + length t ≤ block_start n → NumeralsWithin (length t) k t
    → length (lines_text (rule_lines (rules_at i t))) ≤ length (rules_at i t) * (line_beside + k)
unfolding rules_at lines_text
lines_length n k i [] h l f = omega arith
lines_length n k i (w ∷ t) h l f =
    go (lines_length n k (suc i) t h (omega arith) (λ j b c e. f (suc j) (omega arith) (omega arith) e)) (has_rule w) refl
  where
    after : List Written
    after = rules_at (suc i) t

    go : length (lines_text (rule_lines after)) ≤ length after * (line_beside + k) → (b : Bool) → has_rule w ≡ b
        → length (lines_text (rule_lines (cond b (written_of (rule_at i w) ∷ after) after)))
        ≤ length (cond b (written_of (rule_at i w) ∷ after) after) * (line_beside + k)
    go ih true e =
        let width : length (rule_line_text (rule_at i w)) ≤ line_beside + k =
        line_short n k (rule_at i w) h (rule_at_has_place n i w (omega arith)) (rw (rule_at_bound i w) (f 0 (omega arith) (omega arith) e)) in
        rw (← place_line i w, length-append (rule_line_text (rule_at i w)) (lines_text (rule_lines after))) (omega arith)
    go ih false e = ih

-- ---- the hidden list

-- the bytes of the numerals of k quantities from q on, each with a comma
unfoldable list_width : ℕ → ℕ → ℕ
list_width q zero = 0
list_width q (suc k) = suc (length (decimal q)) + list_width (suc q) k

-- further numerals after that of p
joined_length : (member : ℕ → Bool) (p q k : ℕ) → length (joined_text p (hidden_from member q k)) ≤ length (decimal p) + list_width q k
unfolding joined_text hidden_from list_width
joined_length member p q zero = omega arith
joined_length member p q (suc k) = go (joined_length member q (suc q) k) (joined_length member p (suc q) k) (member q)
  where
    go : length (joined_text q (hidden_from member (suc q) k)) ≤ length (decimal q) + list_width (suc q) k
        → length (joined_text p (hidden_from member (suc q) k)) ≤ length (decimal p) + list_width (suc q) k → (b : Bool)
        → length (joined_text p (cond b (q ∷ hidden_from member (suc q) k) (hidden_from member (suc q) k)))
        ≤ length (decimal p) + (suc (length (decimal q)) + list_width (suc q) k)
    go with-q without true = simp length-append (omega arith)
    go with-q without false = omega arith

-- the list has no comma at its end
list_length : (member : ℕ → Bool) (q k : ℕ) → length (list_text (hidden_from member q k)) ≤ list_width q k - 1
unfolding list_text hidden_from list_width
list_length member q zero = omega arith
list_length member q (suc k) = go (joined_length member q (suc q) k) (list_length member (suc q) k) (member q)
  where
    go : length (joined_text q (hidden_from member (suc q) k)) ≤ length (decimal q) + list_width (suc q) k
        → length (list_text (hidden_from member (suc q) k)) ≤ list_width (suc q) k - 1 → (b : Bool)
        → length (list_text (cond b (q ∷ hidden_from member (suc q) k) (hidden_from member (suc q) k)))
        ≤ (suc (length (decimal q)) + list_width (suc q) k) - 1
    go with-q without true = omega arith
    go with-q without false = omega arith

-- more quantities, more bytes
width_more : (q a b : ℕ) → a ≤ b → list_width q a ≤ list_width q b
unfolding list_width
width_more q zero b h = omega arith
width_more q (suc a) zero h = let z : ⊥ = omega arith in absurd z
width_more q (suc a) (suc b) h = omega (arith, width_more (suc q) a b (omega arith))

-- of as many quantities as there can be, 9 of one digit and 23 of two, the list has at most this many
abbrev pub max_list : ℕ
max_list = 86

width_most : list_width 1 max_quantities ≡ suc max_list
unfolding list_width decimal decimal_up_to
width_most = refl

pub hidden_length : (n set : ℕ) → n ≤ max_quantities → length (list_text (hidden_list n set)) ≤ max_list
hidden_length n set h = omega (arith, list_length (hidden_in set) 1 n, width_more 1 n max_quantities h, width_most)

-- ---- the text

-- the three lines before the rules
pub head_short : (n set m : ℕ) → n ≤ max_quantities → m ≤ max_rules → length (head_text n set m) ≤ max_header
unfolding head_text lines_text line_text value_text
head_short n set m h l =
    simp length-append (omega (arith, hidden_length n set h, decimal_width 1 n (omega arith), decimal_width 3 m (omega arith)))

-- the whole text, of at most m rules whose bounds have at most k bytes each
pub longest_counted : (n set : ℕ) (t : List ℤ) (k m : ℕ) → n ≤ max_quantities → NumeralsWithin (block_start n) k t
    → length (table_rules n t) ≤ m → m ≤ max_rules → length (written_text n set t) ≤ max_header + m * (line_beside + k)
unfolding written_text sheet_text header_text head_text
longest_counted n set t k m h f few most =
    rw (length-append (header_text (contents_of n set t)) (lines_text (rule_lines (table_rules n t)))) (omega (arith, head, body))
  where
    front : List ℤ
    front = take (block_start n) t

    numerals : NumeralsWithin (length front) k front
    numerals j b c e = let w = front_word (block_start n) t j b in rw w.2 (f j w.0 w.1 (rw w.2 at e))

    head : length (header_text (contents_of n set t)) ≤ max_header
    head = head_short n set (length (table_rules n t)) h (omega (arith, few, most))

    body : length (lines_text (rule_lines (table_rules n t))) ≤ m * (line_beside + k)
    body =
        let rules : length (table_rules n t) * (line_beside + k) ≤ m * (line_beside + k) = mul-le-mul_right (line_beside + k) few in
        omega (arith, lines_length n k 0 front h (omega (arith, length-take (block_start n) t)) numerals)

-- no table has more rules than a text may have
pub rules_most : (n : ℕ) (t : List ℤ) → n ≤ max_quantities → length (table_rules n t) ≤ max_rules
rules_most n t h = omega (arith, rules_count 0 (take (block_start n) t), length-take (block_start n) t, small_start n h)

-- so whatever they are
pub longest : (n set : ℕ) (t : List ℤ) (k : ℕ) → n ≤ max_quantities → NumeralsWithin (block_start n) k t
    → length (written_text n set t) ≤ max_header + max_rules * (line_beside + k)
longest n set t k h f = longest_counted n set t k max_rules h f (rules_most n t h) (omega arith)

-- no text is longer than this
pub longest_any : (n set : ℕ) (t : List ℤ) → n ≤ max_quantities → AreWords (block_start n) t → length (written_text n set t) ≤ max_written
longest_any n set t h f = longest n set t word_width h (λ j b c e. word_short (word_at t j) (record { sfits = f j b }))

-- the limit of a sheet's bounds is one number, whatever n and the hidden set
pub sheet_limit : (n set : ℕ) → bound_limit Sheet n set ≡ max_bound
unfolding bound_limit
sheet_limit n set = refl

-- a bound in it has at most 11 bytes
bound_length : (w : ℤ) → Within (pos max_bound) w → length (signed_decimal w) ≤ 11
unfolding positive_part negative_part
bound_length (pos v) h = signed-width 9 (pos v) (omega (arith, within_to h))
bound_length (negsuc v) h = signed-width 9 (negsuc v) (omega (arith, within_to h))

-- so the text of a table of such bounds has 49,271 at most, and is one that may be read
pub longest_sheet : (n set : ℕ) (t : List ℤ) → n ≤ max_quantities → WordsWithin (block_start n) (pos max_bound) t → length (written_text n set t) ≤ max_text
longest_sheet n set t h f = omega (arith, longest n set t 11 h (λ j b c e. bound_length (word_at t j) (f.each j b c e)))
