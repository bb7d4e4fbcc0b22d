-- The limit of a paper's bounds: the reader tells every number up to it, and none is the no-rule word; by a
-- hidden set it is as by the list of a text's header. Assumes nothing.
use mathlib.Core.Path.{◌≡◌, ap}
use mathlib.Core.Bool.{true}
use mathlib.Core.List.{List}
use Prim.Native.Nat.{ℕ, ◌<◌, ◌≤◌}
use native.Mathlib.Nat.{mul-le-mul_left}
use native.Mathlib.Omega.{arith}
use lib.Dec.{T, leb}
use lib.IntN.{ℤ, pos, nat_abs}
use lib.ListN.{length}
use lib.Pow.{pow_mono}
use lib.Signed.{non_neg}
use mir.Syntax.{w64}
use mir.Val.{to_z, of_z, Fits}
use borrow.Author.Tests.{leb-true}
use Rattle.integers.proofs.Parts.{word_value}
use Rattle.numerals.specs.Decimal.{cap}
use Rattle.rules.specs.declared.paper.Paper.{Paper}
use Rattle.rules.specs.declared.paper.Paper.TheVariants.{Sheet, Script}
use Rattle.rules.specs.Hidden.{hidden_in, set_of, member_count}
use Rattle.rules.specs.Limits.{max_quantities, max_bound, bound_range, bound_limit}
use Rattle.rules.proofs.Counts.{count_most}
use Rattle.tables.proofs.Tests.{both_true}
use Rattle.lines.specs.Spelling.{IncreasingFrom, all_within, line_within}
use Rattle.lines.proofs.CappedIntegers.{cap_word}
use Rattle.lines.proofs.SetCounts.{set_count}
use Rattle.reading.specs.Texts.{Contents}
use Rattle.reading.specs.Meaning.{contents_limit, FineLines}

-- with n in its range it is below what numerals are told to
pub limit_told : (paper : Paper) (n set : ℕ) → n ≤ max_quantities → bound_limit paper n set < cap
unfolding bound_limit
limit_told Sheet n set h = omega arith
limit_told Script n set h =
    let few : member_count (hidden_in set) n ≤ max_quantities = omega (arith, count_most (hidden_in set) n) in
    omega (arith, mul-le-mul_left max_bound (pow_mono {i = member_count (hidden_in set) n} {j = max_quantities} few))

-- by the set of a list it is as by the numbers that the list has
pub list_limit : (paper : Paper) (n : ℕ) (qs : List ℕ) → IncreasingFrom 0 qs → all_within n qs ≡ true → bound_limit paper n (set_of qs) ≡ bound_range paper n (length qs)
unfolding bound_limit
list_limit paper n qs i w = ap (bound_range paper n) (set_count n qs i w)

-- ---- of contents that are fine

pub fine_count : (limit : ℕ) (c : Contents) → FineLines limit c → (1 ≤ c.count) × (c.count ≤ max_quantities)
unfolding line_within
fine_count limit c f =
    let q = both_true (leb 1 c.count) (leb c.count max_quantities) f.0.within in
    (leb-true 1 c.count q.0, leb-true c.count max_quantities q.1)

-- a table of their rules has the limit of their text
pub contents-limit : (paper : Paper) (limit : ℕ) (c : Contents) → FineLines limit c → bound_limit paper c.count (set_of c.hiddens) ≡ contents_limit paper c
unfolding line_within
contents-limit paper limit c f = list_limit paper c.count c.hiddens f.1.0.formed f.1.0.within

pub contents_told : (paper : Paper) (limit : ℕ) (c : Contents) → FineLines limit c → contents_limit paper c < cap
contents_told paper limit c f = rw (contents-limit paper limit c f) at (limit_told paper c.count (set_of c.hiddens) (fine_count limit c f).1)

-- ---- as the program has it

-- a number below the cap as a signed word, and the same word as an unsigned one
abbrev pub unsigned : ℤ → ℕ
unsigned z = nat_abs (to_z w64 (of_z w64 z))

pub cap_casts : (v : ℕ) (z : ℤ) → z ≡ pos v → v < cap → T (non_neg (to_z w64 (of_z w64 z))) × Fits w64 (unsigned z)
cap_casts v z e h = rw (e, word_value (cap_word v (omega arith))) (tt, omega arith)

pub cap_value : (v : ℕ) (z : ℤ) → z ≡ pos v → v < cap → unsigned z ≡ v
cap_value v z e h = rw (e, word_value (cap_word v (omega arith)))
