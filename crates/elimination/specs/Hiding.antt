-- Hiding one quantity (document 01, 'Hiding'), in the field's terms eliminating it: each place by itself, with no order of work. Sums are read
-- from places that name the quantity and go to places that do not, so every sum is one of rules as they stood before. Quantity j + 1 has the
-- literals 2j with + and 2j + 1 with -.
use Rattle.std.specs.Prelude.{Bool, true, false, cond, ◌&&◌, ◌||◌, List, ℕ, zero, suc, ◌+◌, ◌*◌, ◌/◌, eqb, ℤ, pos, ◌+ℤ◌}
use Rattle.std.specs.Int.Signed.{lt_z}
use Rattle.integers.specs.Bound.{half, smaller}
use Rattle.words.specs.Change.{word_at, change}
use Rattle.places.specs.Numbering.{block_start, place_of_one, place_of_two, is_one, higher_at, lower_at}
use Rattle.rules.specs.Limits.{no_rule}
use Rattle.rules.specs.Literal.{negated}
use Rattle.tables.specs.Tables.{has_rule, cleared}

-- ---- words

-- a word with the sum of two bounds put in by minimum; it stays where either is no rule
unfoldable pub with_sum : ℤ → ℤ → ℤ → ℤ
with_sum a b w = cond (has_rule a && has_rule b) (smaller w (a +ℤ b)) w

-- the same of the sum halved
unfoldable pub with_half : ℤ → ℤ → ℤ → ℤ
with_half a b w = cond (has_rule a && has_rule b) (smaller w (half (a +ℤ b))) w

-- the bare sum 0 ≤ a + b of two bounds is a contradiction
unfoldable pub bare_below : ℤ → ℤ → Bool
bare_below a b = (has_rule a && has_rule b) && lt_z (a +ℤ b) (pos 0)

-- ---- the rules of one quantity

-- the bound of the term of literals z and x; two of one quantity have no term together
unfoldable pub pair_word : List ℤ → ℕ → ℕ → ℤ
pair_word t z x = cond (eqb (x / 2) (z / 2)) no_rule (word_at t (place_of_two x z))

-- the bound of the term of a literal alone
abbrev pub lone_word : List ℤ → ℕ → ℤ
lone_word t z = word_at t (place_of_one z)

-- ---- sums of a rule with +q and a rule with -q. Here `plus x` and `minus x` are the bounds of x with +q and of x with -q, p and m those of +q
-- and of -q alone

-- what the term of one literal x gets: x with +q and -q alone; x with -q and +q alone; x with +q and x with -q, halved
unfoldable pub on_one : (ℕ → ℤ) → (ℕ → ℤ) → ℤ → ℤ → ℕ → ℤ → ℤ
on_one plus minus p m x w = with_half (plus x) (minus x) (with_sum (plus x) m (with_sum (minus x) p w))

-- what the term of two literals x and y gets: x with +q and y with -q; x with -q and y with +q
unfoldable pub on_two : (ℕ → ℤ) → (ℕ → ℤ) → ℕ → ℕ → ℤ → ℤ
on_two plus minus x y w = with_sum (plus x) (minus y) (with_sum (minus x) (plus y) w)

-- ---- the quantities that take part, a set: `live i` of quantity i + 1

-- all of them
abbrev pub every : ℕ → Bool
every i = true

-- are the quantities of a place live, both where it has two?
unfoldable pub live_at : (ℕ → Bool) → ℕ → Bool
live_at live k = live (higher_at k / 2) && (is_one k || live (lower_at k / 2))

-- as a change: at the places of live quantities, every sum that goes there, by minimum
unfoldable pub pairing : (ℕ → Bool) → (ℕ → ℤ) → (ℕ → ℤ) → ℤ → ℤ → ℕ → ℤ → ℤ
pairing live plus minus p m k w =
    cond (live_at live k) (cond (is_one k) (on_one plus minus p m (higher_at k) w) (on_two plus minus (lower_at k) (higher_at k) w)) w

-- is a bare sum of x with +q and -x with -q, for a literal x of a live quantity below the number given, a contradiction?
unfoldable pub any_bare : (ℕ → Bool) → (ℕ → ℤ) → (ℕ → ℤ) → ℕ → Bool
any_bare live plus minus zero = false
any_bare live plus minus (suc x) = (live (x / 2) && bare_below (plus x) (minus (negated x))) || any_bare live plus minus x

-- ---- the step, on a table over n quantities

-- every rule with the quantity j + 1 and + is added to every rule with it and -, and the sums go in by minimum. Of the other quantities only the live
-- ones take part: with every one it is document 01's step
unfoldable pub paired : (ℕ → Bool) → ℕ → ℕ → List ℤ → List ℤ
paired live n j t =
    change (block_start n) (pairing live (pair_word t (2 * j)) (pair_word t (2 * j + 1)) (lone_word t (2 * j)) (lone_word t (2 * j + 1))) t

-- one of these sums is bare and below 0: a contradiction
unfoldable pub contradicts : (ℕ → Bool) → ℕ → ℕ → List ℤ → Bool
contradicts live n j t =
    bare_below (lone_word t (2 * j)) (lone_word t (2 * j + 1)) || any_bare live (pair_word t (2 * j)) (pair_word t (2 * j + 1)) (2 * n)

-- the table with the quantity j + 1 hidden: all sums put in, then all places that name the quantity no rule
unfoldable pub eliminated : ℕ → ℕ → List ℤ → List ℤ
eliminated n j t = cleared n (suc j) (paired every n j t)
