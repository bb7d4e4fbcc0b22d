-- `byte::has_key` meets its contract: the library's test at the rest of the text. Assumes nothing.
use mathlib.Core.Path.{◌∙◌}
use Rattle.numerals.proofs.Keys.{library_key}
use Rattle.numerals.proofs.byte.has_key.Goals as goal

pub returns : goal.returns
returns c = c.starts_with.ensures.value ∙ library_key c.args.key.now c.args.s.now c.args.at c.min.result c.min.ensures
