-- `integers::halve` meets its contract: twice the half is the word or one less. Assumes nothing.
use Rattle.integers.specs.Bound.{odd}
use Rattle.integers.proofs.Parts.{word_value, held_value}
use Rattle.integers.proofs.Halving.{is_halved, doubled_fits}
use Rattle.integers.proofs.halve.Goals as goal

pub returns : goal.returns
unfolding odd
returns c = rw (held_value {z = c.halved-half.result} c.halved-half.type_inv, c.halved-half.ensures, word_value c.ranges.c, word_value (doubled_fits c.args.c c.ranges.c)) (is_halved c.args.c)
