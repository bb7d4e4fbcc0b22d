-- `choose::with_upper` meets its contract: a bound and a value of its size have a difference that is a word. Assumes nothing.
use mathlib.Core.Path.{◌≡◌}
use mathlib.Core.Bool.{true}
use native.Mathlib.Omega.{arith}
use lib.IntN.{◌+ℤ◌, neg_ℤ}
use mir.Syntax.{w64}
use mir.Val.{SFits}
use Rattle.std.proofs.Common.{rules}
use Rattle.integers.proofs.Parts.{word_value}
use Rattle.integers.proofs.Within.{sum_word, within_neg}
use Rattle.tables.specs.Tables.{has_rule}
use Rattle.elimination.specs.Choosing.{with_upper}
use Rattle.elimination.proofs.choose.with_upper.Goals as goal

pub returns-then-bound-lt-NO_RULE : goal.returns-then-bound-lt-NO_RULE
unfolding with_upper
returns-then-bound-lt-NO_RULE c =
    let rule : has_rule c.args.bound ≡ true = rw (word_value c.ranges.bound) at c.if-bound-lt-NO_RULE.true in
    let fits : SFits w64 (c.args.bound +ℤ neg_ℤ c.args.a) = sum_word (omega arith) (c.requires.0 rule) (within_neg c.requires.1) in
    rw rule (search rules)
