-- `own::count_at_most` meets its contract: the first line alone tells n, where the text is fine. Assumes nothing.
use Rattle.std.proofs.Common.{rules}
use Rattle.scripts.proofs.OwnRoom.{answer_most}
use Rattle.scripts.proofs.own.count_at_most.Goals as goal

pub returns : goal.returns
returns c = answer_most c.args.sheet.now c.count_line.result c.map_or.result c.count_line.ensures.reply (search rules)
