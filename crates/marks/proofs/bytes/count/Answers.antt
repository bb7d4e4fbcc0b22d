-- `bytes::count` meets its contract: the library counts the bytes one by one. Assumes nothing.
use mathlib.Core.Path.{◌∙◌}
use Rattle.std.proofs.Common.{rules, tests}
use Rattle.std.proofs.lemmas.Iterator.{YieldsList-from_slice, YieldsList-from_take}
use Rattle.std.proofs.lemmas.Iterator.Consumers.{YieldsList-from_filter, count_from_yields_List}
use lib.Dec.{eqb}
use Rattle.marks.proofs.Counting.{count_all}
use Rattle.marks.proofs.bytes.count.Goals as goal

pub returns : goal.returns
returns c =
    count_from_yields_List c.filter.result c.count.result c.count.ensures.ran
    (YieldsList-from_filter _ (λ b. eqb b 1) (YieldsList-from_take c.args.m (YieldsList-from_slice c.args.marks.now (cc)) (cc)) c.filter.ensures.closure (λ x r q k. search (rules, tests)))
    ∙ count_all c.args.m c.args.marks.now
