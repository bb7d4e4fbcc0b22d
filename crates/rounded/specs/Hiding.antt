-- Hiding with marks (document 02, [6]): document 01's step place by place, each word with its mark. The bounds are those of the step without marks (`elimination`, Hiding). Quantity j + 1 has the literals 2j with + and 2j + 1
-- with -.
use Rattle.std.specs.Prelude.{Bool, cond, ℕ, zero, suc, ◌+◌, ◌*◌, ◌/◌, eqb}
use Rattle.places.specs.Numbering.{place_of_one, place_of_two, is_one, higher_at, lower_at}
use Rattle.rules.specs.Meaning.{names}
use Rattle.tables.specs.Places.{rule_at}
use Rattle.marks.specs.Marks.{Marked, unruled, with_marked_sum, with_marked_half}

-- the place of literals z and x; two of one quantity have no term together
unfoldable pub pair_marked : (ℕ → Marked) → ℕ → ℕ → Marked
pair_marked t z x = cond (eqb (x / 2) (z / 2)) unruled (t (place_of_two x z))

-- the place of a literal alone
abbrev pub lone_marked : (ℕ → Marked) → ℕ → Marked
lone_marked t z = t (place_of_one z)

-- the sums that go to a place. Here `plus x` and `minus x` are the places of x with +q and of x with -q, p and m those of +q and of -q alone.
-- To the term of one literal x go x with +q and -q alone; x with -q and +q alone; x with +q and x with -q, halved
unfoldable pub on_one_marked : (ℕ → Marked) → (ℕ → Marked) → Marked → Marked → ℕ → Marked → Marked
on_one_marked plus minus p m x w = with_marked_half (plus x) (minus x) (with_marked_sum (plus x) m (with_marked_sum (minus x) p w))

-- to that of two literals x and y go x with +q and y with -q; x with -q and y with +q
unfoldable pub on_two_marked : (ℕ → Marked) → (ℕ → Marked) → ℕ → ℕ → Marked → Marked
on_two_marked plus minus x y w = with_marked_sum (plus x) (minus y) (with_marked_sum (minus x) (plus y) w)

unfoldable pub sums_marked : (ℕ → Marked) → (ℕ → Marked) → Marked → Marked → ℕ → Marked → Marked
sums_marked plus minus p m k w = cond (is_one k) (on_one_marked plus minus p m (higher_at k) w) (on_two_marked plus minus (lower_at k) (higher_at k) w)

-- the step that hides quantity j + 1: all sums put in, and the places that name it without a rule
unfoldable pub hide_marked : ℕ → (ℕ → Marked) → ℕ → Marked
hide_marked j t k =
    cond (names (suc j) (rule_at k (t k).bound)) unruled
    (sums_marked (pair_marked t (2 * j)) (pair_marked t (2 * j + 1)) (lone_marked t (2 * j)) (lone_marked t (2 * j + 1)) k (t k))

-- of the first m quantities those that are hidden, hidden in increasing number
unfoldable pub marked_up_to : (ℕ → Bool) → ℕ → (ℕ → Marked) → ℕ → Marked
marked_up_to hidden zero t = t
marked_up_to hidden (suc j) t = cond (hidden (suc j)) (hide_marked j (marked_up_to hidden j t)) (marked_up_to hidden j t)

-- the plain key over n quantities with its marks
abbrev pub marked_key : (ℕ → Bool) → ℕ → (ℕ → Marked) → ℕ → Marked
marked_key hidden n t = marked_up_to hidden n t
