-- The text of a key is never too long for the reader, by its rules: none hidden, its bounds are a sheet's; else it names at most 31 quantities. Assumes nothing.
use mathlib.Core.Path.{◌≡◌, refl}
use mathlib.Core.Bool.{Bool, true, false}
use mathlib.Core.List.{List}
use Prim.Native.Nat.{ℕ, ◌*◌, ◌^◌, ◌≤◌, ◌<◌}
use native.Mathlib.Nat.{mul-le-mul_left}
use native.Mathlib.Omega.{arith}
use lib.Dec.{eqb}
use lib.IntN.{ℤ, pos, negsuc}
use lib.ListN.{length}
use lib.Pow.{pow_mono}
use borrow.Author.Tests.{eqb-true, eqb-false}
use Rattle.integers.specs.Bound.{Within}
use Rattle.integers.proofs.Within.{within_to, within_mono}
use Rattle.integers.proofs.Parts.{positive_part, negative_part}
use Rattle.words.specs.Change.{word_at}
use Rattle.places.specs.Numbering.{block_start}
use Rattle.places.proofs.Numbering.{block_start_mono}
use Rattle.rules.specs.declared.paper.Paper.TheVariants.{Script}
use Rattle.rules.specs.Hidden.{hidden_in, member_count}
use Rattle.rules.specs.Limits.{bound_limit, max_quantities, max_bound, max_text}
use Rattle.rules.proofs.Counts.{count_most}
use Rattle.tables.specs.Meaning.{KeyLike, BoundsWithin}
use Rattle.numerals.specs.Decimal.{signed_decimal}
use Rattle.numerals.proofs.Decimals.{signed-width}
use Rattle.writing.specs.Writing.{table_rules, written_text}
use Rattle.writing.proofs.Counts.{visible_count, rules_visible}
use Rattle.writing.proofs.Lengths.{NumeralsWithin, longest_counted, longest_sheet}
use Rattle.writing.proofs.Lines.{word_width}

-- the largest bound that all quantities hidden would leave is still short
grown_width : (w : ℤ) → Within (pos (max_bound * 2 ^ max_quantities)) w → length (signed_decimal w) ≤ word_width
unfolding positive_part negative_part
grown_width (pos v) h = signed-width 18 (pos v) (omega (arith, within_to h))
grown_width (negsuc v) h = signed-width 18 (negsuc v) (omega (arith, within_to h))

-- the limit of a script's bounds goes by how many quantities are hidden
pub script_limit : (n set : ℕ) → bound_limit Script n set ≡ max_bound * 2 ^ member_count (hidden_in set) n
unfolding bound_limit
script_limit n set = refl

-- so the bounds in it are short, as a key's are
pub grown_numerals : (n set : ℕ) (t : List ℤ) → n ≤ max_quantities
    → BoundsWithin Script n set t → NumeralsWithin (block_start n) word_width t
grown_numerals n set t h w j b c e = grown_width (word_at t j) (within_mono most (w.each j b c e))
  where
    most : bound_limit Script n set ≤ max_bound * 2 ^ max_quantities
    most = rw (script_limit n set)
        (mul-le-mul_left max_bound (pow_mono {i = member_count (hidden_in set) n} {j = max_quantities} (omega (arith, count_most (hidden_in set) n))))

-- with something hidden it has no more rules than a table over 31 quantities has places
abbrev key_rules : ℕ
key_rules = 1922

places_31 : block_start 31 ≡ key_rules
unfolding block_start
places_31 = refl

key-rules : (n set : ℕ) (t : List ℤ) → n ≤ max_quantities → block_start n ≤ length t → KeyLike n set t → 0 < member_count (hidden_in set) n
    → length (table_rules n t) ≤ key_rules
key-rules n set t h room key some =
    omega (
      arith,
      rules_visible (hidden_in set) n t room key.visible,
      block_start_mono {a = visible_count (hidden_in set) n} {b = 31} (omega arith),
      places_31,
    )

-- so its text may be read
pub key_short : (n set : ℕ) (t : List ℤ) → n ≤ max_quantities → block_start n ≤ length t → KeyLike n set t → length (written_text n set t) ≤ max_text
key_short n set t h room key = go (eqb (member_count (hidden_in set) n) 0) refl
  where
    go : (b : Bool) → eqb (member_count (hidden_in set) n) 0 ≡ b → length (written_text n set t) ≤ max_text
    go true e = longest_sheet n set t h (rw (script_limit n set, eqb-true (member_count (hidden_in set) n) 0 e) at key.within)
    go false e =
        let rules = key-rules n set t h room key (omega (arith, eqb-false (member_count (hidden_in set) n) 0 e)) in
        omega (arith, longest_counted n set t word_width key_rules h (grown_numerals n set t h key.within) rules (omega arith))
