-- The limits of texts at their edges, in document 01's numbers and not by the names of limits: the last number that is allowed, and the first that is not.
-- Assumes nothing.
use mathlib.Core.Path.{◌≡◌, refl, ◌∙◌}
use mathlib.Core.List.{List, []}
use mathlib.Core.Logic.{inl, inr}
use Prim.Native.Nat.{ℕ}
use native.Mathlib.Omega.{arith}
use lib.ListN.{length, replicate, length-replicate}
use Rattle.numerals.specs.Bytes.{bytes}
use Rattle.rules.specs.declared.paper.Paper.{Paper}
use Rattle.rules.specs.declared.paper.Paper.TheVariants.{Sheet}
use Rattle.rules.specs.declared.refusal.Refusal.TheVariants.{Size, Malformed, OutOfLimit}
use Rattle.rules.specs.Refusal.{refused_as}
use Rattle.lines.specs.Lines.{refused}
use Rattle.reading.specs.Meaning.{LineFails, malformed_at, outside_at, cancels_at, FailsFor, Readable}
use Rattle.reading.specs.Reading.{Checked, check_text, checked_returned}
use Rattle.reading.specs.Promises.{TextChecked}
use Rattle.reading.proofs.Means.{text_means, small_check}
use Rattle.reading.proofs.Frauds.{reading}

-- ---- 65,536 bytes

-- no line is refused with 1
line_size : (paper : Paper) (s : List ℕ) → LineFails paper s Size → ⊥
line_size paper s (malformed_at line m e) = let z : ◌≡◌ {A = ℕ} 0 1 = cc in omega arith
line_size paper s (outside_at line m e) = let z : ◌≡◌ {A = ℕ} 0 1 = cc in omega arith
line_size paper s (cancels_at line m e) = let z : ◌≡◌ {A = ℕ} 0 1 = cc in omega arith

module _ (paper : Paper) (s : List ℕ) (r : Checked) (p : TextChecked paper s r) where
  pub largest_text : length s ≡ 65536 → checked_returned r ≡ refused_as Size → ⊥
  largest_text e q = go ((p.refused Size).0 q)
    where
      go : FailsFor paper s Size → ⊥
      go (inl h) = omega (arith, e, h.0)
      go (inr h) = line_size paper s h.1

  pub larger_text : length s ≡ 65537 → checked_returned r ≡ record { number = 1; values = [] }
  larger_text e = (p.refused Size).1 (inl (omega arith, refl))

-- so that many bytes `x` are malformed at line 1
pub largest_malformed : (paper : Paper) → check_text paper (replicate 65536 120) ≡ refused (Malformed 1)
unfolding reading
largest_malformed paper = small_check paper (replicate 65536 120) (omega (arith, length-replicate {A = ℕ} 65536 120)) ∙ refl

-- ---- 1 to 32 quantities, 2,048 rules, bounds to 1,000,000,000

abbrev pub text_32 : List ℕ
text_32 = bytes "quantities=32\nhidden=32\nrules=0\n"

pub most_quantities : (paper : Paper) → Readable paper text_32
unfolding reading
most_quantities paper = record { contents = _; reads = ((text_means paper text_32 _).0 refl).0 }

pub no_quantities : (paper : Paper) → FailsFor paper (bytes "quantities=0\nhidden=\nrules=0\n") (OutOfLimit 1)
unfolding reading
no_quantities paper = (text_means paper _ (refused (OutOfLimit 1))).0 refl

pub more_quantities : (paper : Paper) → FailsFor paper (bytes "quantities=33\nhidden=\nrules=0\n") (OutOfLimit 1)
unfolding reading
more_quantities paper = (text_means paper _ (refused (OutOfLimit 1))).0 refl

-- 2,048 rules are allowed, and then missed
pub most_rules : (paper : Paper) → FailsFor paper (bytes "quantities=1\nhidden=\nrules=2048\n") (Malformed 4)
unfolding reading
most_rules paper = (text_means paper _ (refused (Malformed 4))).0 refl

pub more_rules : (paper : Paper) → FailsFor paper (bytes "quantities=1\nhidden=\nrules=2049\n") (OutOfLimit 3)
unfolding reading
more_rules paper = (text_means paper _ (refused (OutOfLimit 3))).0 refl

abbrev pub text_bounds : List ℕ
text_bounds = bytes "quantities=1\nhidden=\nrules=2\nrule=+1:1000000000\nrule=-1:-1000000000\n"

pub largest_bounds : Readable Sheet text_bounds
unfolding reading
largest_bounds = record { contents = _; reads = ((text_means Sheet text_bounds _).0 refl).0 }

pub larger_bound : FailsFor Sheet (bytes "quantities=1\nhidden=\nrules=1\nrule=+1:1000000001\n") (OutOfLimit 4)
unfolding reading
larger_bound = (text_means Sheet _ (refused (OutOfLimit 4))).0 refl

pub lower_bound : FailsFor Sheet (bytes "quantities=1\nhidden=\nrules=1\nrule=+1:-1000000001\n") (OutOfLimit 4)
unfolding reading
lower_bound = (text_means Sheet _ (refused (OutOfLimit 4))).0 refl
