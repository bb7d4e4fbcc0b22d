-- The table's steps: its size, its empty form, a rule put in, a quantity's places cleared, and the tests of its words and of the quantities that they name.
use Rattle.std.specs.Prelude.{Bool, true, false, cond, not, ◌&&◌, ◌||◌, List, [], ◌∷◌, ℕ, zero, suc, ◌*◌, leb, ltb, eqb, ℤ, pos, neg_ℤ, replicate, take, Option, Some, None, Ok}
use Rattle.std.specs.Int.Signed.{lt_z, le_z}
use Rattle.integers.specs.Bound.{smaller}
use Rattle.words.specs.Change.{change, lowered}
use Rattle.places.specs.Numbering.{block_start}
use Rattle.rules.specs.declared.rule.Rule.{Rule}
use Rattle.rules.specs.declared.rule.Rule.TheVariants.{One, Two, Nothing}
use Rattle.rules.specs.declared.refusal.Refusal.TheVariants.{Size, OutOfLimit, Cancelling, NoAssignment}
use Rattle.rules.specs.Limits.{max_quantities, no_rule}
use Rattle.rules.specs.Literal.{negated, quantity_of}
use Rattle.rules.specs.Meaning.{bound_of, names}
use Rattle.rules.specs.Steps.{halved_of}
use Rattle.tables.specs.Replies.{Reply, check}
use Rattle.tables.specs.Places.{rule_at, find_place}

-- the words of a table over n quantities, 2n²; none where n is outside its range
unfoldable pub table_size : ℕ → ℕ
table_size n = cond (leb 1 n && leb n max_quantities) (block_start n) 0

-- a table of so many words serves n quantities: n is in its range, and the table is long enough
unfoldable pub serves : ℕ → ℕ → Bool
serves n words = ltb 0 (table_size n) && leb (table_size n) words

-- does a word hold a rule? Any word but the no-rule word does, which is the largest of 64 bits. It stands among the bounds: inside `with_sum`, `paired`, `key_of`,
-- `refuted`, `tightened` and `tight_key_of` a sum of 2⁶³ - 1 or more would silently be no rule. Where sums fit (`Fits`) none is so large. Where bounds are arbitrary these steps are
-- never what anything means: a meaning is over unbounded integers (of a tight table, whatever its bounds, `tight_key_of` changes nothing all the same)
abbrev pub has_rule : ℤ → Bool
has_rule w = lt_z w no_rule

-- no rules
abbrev pub empty_table : ℕ → List ℤ
empty_table n = replicate (block_start n) no_rule

-- the reply to emptying a table of so many words
abbrev pub empty_reply : ℕ → ℕ → Reply
empty_reply n words = check (serves n words) Size (Ok tt)

-- a halved rule's quantities are all of 1 to n, and its bound is not the no-rule word, as that of the trivial rule is
abbrev pub rule_fits : ℕ → Rule → Bool
rule_fits n (One x c) = ltb x (2 * n) && has_rule c
rule_fits n (Two x y c) = ltb x (2 * n) && ltb y (2 * n) && has_rule c
rule_fits n (Nothing c) = has_rule c

-- its term is +q-q or -q+q
abbrev pub cancels : Rule → Bool
cancels (One x c) = false
cancels (Two x y c) = eqb y (negated x)
cancels (Nothing c) = false

-- it is a bare 0 ≤ c with c below 0
abbrev pub is_bare_below : Rule → Bool
is_bare_below (One x c) = false
is_bare_below (Two x y c) = false
is_bare_below (Nothing c) = lt_z c (pos 0)

-- the reply to a halved rule for a table over n quantities: 3, 4, 5
unfoldable pub rule_reply : ℕ → Rule → Reply
rule_reply n r = check (rule_fits n r) (OutOfLimit 0) (check (not (cancels r)) (Cancelling 0) (check (not (is_bare_below r)) NoAssignment (Ok tt)))

-- the reply to putting a rule into a table of so many words, a doubled term halved first
unfoldable pub put_reply : ℕ → ℕ → Rule → Reply
put_reply n words r = check (serves n words) Size (rule_reply n (halved_of r))

-- a word goes to a place by minimum
unfoldable pub put_at : List ℤ → Option ℕ → ℤ → List ℤ
put_at t (Some k) w = lowered t k w
put_at t None w = t

-- a halved rule goes to the place of its term
unfoldable pub put_halved : List ℤ → Rule → List ℤ
put_halved t r = put_at t (find_place r) (bound_of r)

-- the table with a rule put in, a doubled term halved first
unfoldable pub put_rule : List ℤ → Rule → List ℤ
put_rule t r = put_halved t (halved_of r)

-- the table with every rule of a list put in, one after the other
unfoldable pub put_all : List ℤ → List Rule → List ℤ
put_all t [] = t
put_all t (r ∷ rs) = put_all (put_rule t r) rs

-- the empty table with a list of rules put in
abbrev pub table_of : ℕ → List Rule → List ℤ
table_of n rs = put_all (empty_table n) rs

-- is a place the k-th?
abbrev pub is_at : ℕ → Option ℕ → Bool
is_at k (Some j) = eqb k j
is_at k None = false

-- the smallest bound that rules of a list have at a place, a doubled term halved; the no-rule word where none has that place
unfoldable pub smallest_at : ℕ → List Rule → ℤ
smallest_at k [] = no_rule
smallest_at k (r ∷ rs) = cond (is_at k (find_place (halved_of r))) (smaller (bound_of (halved_of r)) (smallest_at k rs)) (smallest_at k rs)

-- as a change: the no-rule word at each place that names quantity q
abbrev pub clearing : ℕ → ℕ → ℤ → ℤ
clearing q k w = cond (names q (rule_at k w)) no_rule w

-- the table with every place that names quantity q cleared
unfoldable pub cleared : ℕ → ℕ → List ℤ → List ℤ
cleared n q t = change (block_start n) (clearing q) t

-- the reply to clearing quantity q, which has to be one of 1 to n
unfoldable pub clear_reply : ℕ → ℕ → ℕ → Reply
clear_reply n words q = check (serves n words) Size (check (leb 1 q && leb q n) (OutOfLimit 0) (Ok tt))

-- a word is no rule, or a bound of at most B in magnitude
unfoldable pub in_limit : ℤ → ℤ → Bool
in_limit B w = cond (has_rule w) (le_z (neg_ℤ B) w && le_z w B) true

-- the first m words of a list, or all where there are fewer, are each in the limit
unfoldable pub words_in_limit : ℕ → ℤ → List ℤ → Bool
words_in_limit zero B t = true
words_in_limit (suc m) B [] = true
words_in_limit (suc m) B (w ∷ t) = in_limit B w && words_in_limit m B t

-- does a rule name a hidden quantity?
unfoldable pub names_hidden : (ℕ → Bool) → Rule → Bool
names_hidden hidden (One x c) = hidden (quantity_of x)
names_hidden hidden (Two x y c) = hidden (quantity_of x) || hidden (quantity_of y)
names_hidden hidden (Nothing c) = false

-- does one of the rules of words, the first being the word of place k?
unfoldable pub any_names_hidden : (ℕ → Bool) → ℕ → List ℤ → Bool
any_names_hidden hidden k [] = false
any_names_hidden hidden k (w ∷ ws) = (has_rule w && names_hidden hidden (rule_at k w)) || any_names_hidden hidden (suc k) ws

-- does one of the rules of a table?
abbrev pub table_names_hidden : (ℕ → Bool) → ℕ → List ℤ → Bool
table_names_hidden hidden n t = any_names_hidden hidden 0 (take (block_start n) t)
