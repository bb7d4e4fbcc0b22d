-- Values read back from a table in which all quantities outside a set are eliminated: they satisfy it, are 0 in the set, and lie in their range. Assumes nothing.
use mathlib.Core.Path.{◌≡◌, refl, ◌∙◌}
use mathlib.Core.List.{List}
use mathlib.Core.Logic.{inr}
use Prim.Native.Nat.{ℕ, ◌+◌, ◌-◌, ◌*◌, ◌≤◌, ◌<◌, ◌^◌}
use native.Mathlib.Omega.{arith}
use lib.IntN.{ℤ, pos}
use lib.ListN.{length}
use borrow.Author.Tests.{le-ltb}
use Rattle.integers.specs.Bound.{Within}
use Rattle.integers.proofs.Parts.{positive_part, negative_part}
use Rattle.integers.proofs.Within.{within_mono, within_of}
use Rattle.words.specs.Change.{word_at, change, fill_from}
use Rattle.words.proofs.Change.{change_length, change_drop, change_below}
use Rattle.rules.specs.Hidden.{member_count}
use Rattle.tables.specs.Meaning.{Satisfies, assignment_of}
use Rattle.tables.proofs.Tests.{clash}
use Rattle.elimination.specs.Magnitude.{value_limit}
use Rattle.keys.specs.declared.live.Part.TheVariants.{Outside}
use Rattle.keys.specs.Keys.{hide_up_to}
use Rattle.keys.specs.Inner.{outside, member_of, Readable, PartReadable, read_back, Reduced, Fillable, Filled}
use Rattle.keys.proofs.Deciding.{rest_left}
use Rattle.keys.proofs.Fitting.{member_limit}
use Rattle.keys.proofs.ReadBack.{read_length, read_rest, read_others, read_satisfies, read_within}

zero_within : (W : ℕ) → Within (pos W) (pos 0)
unfolding positive_part negative_part
zero_within W = within_of (omega arith) (omega arith)

module _ (n set : ℕ) (table values : List ℤ) where
  -- the values set to 0 at first
  abbrev zeroed : List ℤ
  zeroed = change n (fill_from 0 (pos 0)) values

  zeroed_word : n ≤ length values → (i : ℕ) → i < n → word_at zeroed i ≡ pos 0
  zeroed_word l i h = change_below n (fill_from 0 (pos 0)) values i h (omega arith) ∙ rw (le-ltb i 0 (omega arith))

  -- may be read from a table that the table is the reduction of
  reduced_readable : (t : List ℤ) → n ≤ length values → (r : Reduced n set t table) → Readable (member_of set Outside) n 0 t table zeroed
  reduced_readable t l r = record {
    fits = r.fits.sums;
    at = r.at;
    room = r.room;
    values_room = omega (arith, change_length n (fill_from 0 (pos 0)) values);
    others = λ i h e. rw (zeroed_word l i h) (zero_within 0);
    last = omega (arith, r.fits.sums.last);
  }

  pub fillable_readable : Fillable n set table values → PartReadable n set Outside table (change n (fill_from 0 (pos 0)) values)
  fillable_readable f = record { wide = 0; from = f.from; readable = reduced_readable f.from f.values_room f.reduced; alone = f.reduced.fits.alone }

  -- and then are an assignment of it
  pub filled : (values' : List ℤ) → Fillable n set table values → values' ≡ read_back set Outside n table n (change n (fill_from 0 (pos 0)) values) → Filled n set table values values'
  unfolding hide_up_to member_count reduced_readable
  filled values' f e = rw e (record {
    meaning = λ t r. meaning t r;
    zero = λ i h d. read_others set Outside n 0 f.from table zeroed (readable f) f.reduced.fits.alone n (omega arith) i (rw d) ∙ zeroed_word f.values_room i h;
    within = λ t r i h. within_mono (small t r) (read_within set Outside n 0 t table zeroed (reduced_readable t f.values_room r) r.fits.alone n (omega arith) i h (inr (omega arith)));
    lent = record {
      size = read_length set Outside n 0 f.from table zeroed (readable f) f.reduced.fits.alone n ∙ change_length n (fill_from 0 (pos 0)) values;
      rest = read_rest set Outside n 0 f.from table zeroed (readable f) f.reduced.fits.alone n (omega arith) ∙ change_drop n (fill_from 0 (pos 0)) values;
      kept = λ c. clash refl c;
    };
  })
    where
      readable : (f : Fillable n set table values) → Readable (member_of set Outside) n 0 f.from table zeroed
      readable f = reduced_readable f.from f.values_room f.reduced

      none : n - n ≡ 0
      none = omega arith

      small : (t : List ℤ) (r : Reduced n set t table)
          → 0 + (member_limit (outside set) r.fits.sums.limit n - member_limit (outside set) r.fits.sums.limit (n - n))
          ≤ r.fits.sums.limit * 2 ^ member_count (outside set) n - r.fits.sums.limit
      small t r = rw none (omega arith)

      meaning : (t : List ℤ) → Reduced n set t table → Satisfies n t (assignment_of (read_back set Outside n table n zeroed))
      meaning t r =
          rw none at (read_satisfies set Outside n 0 t table zeroed (reduced_readable t f.values_room r) r.fits.alone
          (rest_left n set t r.fits (assignment_of zeroed)) n (omega arith))

-- ---- their range

-- a limit that grows to less than 2 ^ 62 is in the range of values
pub filled_range : (n set : ℕ) (t table values values' : List ℤ) → Reduced n set t table → Filled n set table values values' → (i : ℕ) → i < n → Within value_limit (word_at values' i)
filled_range n set t table values values' r f i h = within_mono (omega (arith, r.fits.sums.last)) (f.within t r i h)
