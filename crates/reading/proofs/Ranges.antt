-- The range of a script's bounds at its edges, in document 02's numbers and not by the names of limits: 1,000,000,000 doubled for each hidden quantity of the text's
-- own header, the last number that is allowed and the first that is not. Sheets keep their range. Assumes nothing.
use mathlib.Core.Path.{refl}
use mathlib.Core.List.{List}
use Prim.Native.Nat.{ℕ}
use Rattle.numerals.specs.Bytes.{bytes}
use Rattle.rules.specs.declared.paper.Paper.TheVariants.{Sheet, Script}
use Rattle.rules.specs.declared.refusal.Refusal.TheVariants.{OutOfLimit, Cancelling}
use Rattle.lines.specs.Lines.{refused}
use Rattle.reading.specs.Meaning.{FailsFor, Readable}
use Rattle.reading.proofs.Means.{text_means}
use Rattle.reading.proofs.Frauds.{reading}

-- ---- nothing hidden: the sheet's range

pub none_larger : FailsFor Script (bytes "quantities=3\nhidden=\nrules=1\nrule=+1-3:2000000000\n") (OutOfLimit 4)
unfolding reading
none_larger = (text_means Script _ (refused (OutOfLimit 4))).0 refl

-- ---- one hidden: twice that

abbrev pub text_doubled : List ℕ
text_doubled = bytes "quantities=3\nhidden=2\nrules=1\nrule=+1-3:2000000000\n"

pub one_largest : Readable Script text_doubled
unfolding reading
one_largest = record { contents = _; reads = ((text_means Script text_doubled _).0 refl).0 }

pub one_larger : FailsFor Script (bytes "quantities=3\nhidden=2\nrules=1\nrule=+1-3:2000000001\n") (OutOfLimit 4)
unfolding reading
one_larger = (text_means Script _ (refused (OutOfLimit 4))).0 refl

-- the bound of a doubled term is taken as written
pub one_doubled_term : FailsFor Script (bytes "quantities=3\nhidden=2\nrules=1\nrule=+1+1:2000000001\n") (OutOfLimit 4)
unfolding reading
one_doubled_term = (text_means Script _ (refused (OutOfLimit 4))).0 refl

-- a sheet with the same header keeps its range
pub one_of_sheet : FailsFor Sheet text_doubled (OutOfLimit 4)
unfolding reading
one_of_sheet = (text_means Sheet _ (refused (OutOfLimit 4))).0 refl

-- ---- two hidden: four times that

abbrev pub text_fourfold : List ℕ
text_fourfold = bytes "quantities=3\nhidden=1,2\nrules=2\nrule=+3:4000000000\nrule=-3:-4000000000\n"

pub two_largest : Readable Script text_fourfold
unfolding reading
two_largest = record { contents = _; reads = ((text_means Script text_fourfold _).0 refl).0 }

pub two_larger : FailsFor Script (bytes "quantities=3\nhidden=1,2\nrules=1\nrule=+3:4000000001\n") (OutOfLimit 4)
unfolding reading
two_larger = (text_means Script _ (refused (OutOfLimit 4))).0 refl

pub two_lower : FailsFor Script (bytes "quantities=3\nhidden=1,2\nrules=1\nrule=+3:-4000000001\n") (OutOfLimit 4)
unfolding reading
two_lower = (text_means Script _ (refused (OutOfLimit 4))).0 refl

-- 3 comes before 4 on the line, by that range
pub two_cancelling : FailsFor Script (bytes "quantities=3\nhidden=1,2\nrules=1\nrule=+3-3:4000000000\n") (Cancelling 4)
unfolding reading
two_cancelling = (text_means Script _ (refused (Cancelling 4))).0 refl

pub two_past_cancelling : FailsFor Script (bytes "quantities=3\nhidden=1,2\nrules=1\nrule=+3-3:4000000001\n") (OutOfLimit 4)
unfolding reading
two_past_cancelling = (text_means Script _ (refused (OutOfLimit 4))).0 refl

-- ---- all 32 hidden: the largest range of all

abbrev pub text_all : List ℕ
text_all = bytes "quantities=32\nhidden=1,2,3,4,5,6,7,8,9,10,11,12,13,14,15,16,17,18,19,20,21,22,23,24,25,26,27,28,29,30,31,32\nrules=1\nrule=+1:4294967296000000000\n"

pub all_largest : Readable Script text_all
unfolding reading
all_largest = record { contents = _; reads = ((text_means Script text_all _).0 refl).0 }

pub all_larger : FailsFor Script
    (bytes "quantities=32\nhidden=1,2,3,4,5,6,7,8,9,10,11,12,13,14,15,16,17,18,19,20,21,22,23,24,25,26,27,28,29,30,31,32\nrules=1\nrule=+1:4294967296000000001\n") (OutOfLimit 4)
unfolding reading
all_larger = (text_means Script _ (refused (OutOfLimit 4))).0 refl
