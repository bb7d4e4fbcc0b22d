-- `bytes::are_marks` meets its contract: the library tests the bytes one by one. Assumes nothing.
use mathlib.Core.Path.{◌∙◌}
use Rattle.std.proofs.Common.{rules, tests}
use Rattle.std.proofs.lemmas.Iterator.{YieldsList-from_slice, YieldsList-from_take}
use Rattle.std.proofs.lemmas.Iterator.Search.{all_from_yields_List}
use lib.Dec.{leb}
use Rattle.marks.proofs.Testing.{marks_all, marks_tested}
use Rattle.marks.proofs.bytes.are_marks.Goals as goal

pub returns : goal.returns
returns c = marks_tested _ _ _
    (all_from_yields_List (λ b. leb b 1) _ _ _ c.all.ensures.ran (YieldsList-from_take c.args.m (YieldsList-from_slice c.args.marks.now (cc)) (cc)) (λ x r q k. search (rules, tests))
    ∙ marks_all c.args.m c.args.marks.now)
