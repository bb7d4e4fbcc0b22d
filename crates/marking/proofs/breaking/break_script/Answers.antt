-- `breaking::break_script` meets its contract: the script is copied, and the rule broken in the copy. Assumes nothing.
use Rattle.marking.proofs.Broken.{script_breakable, script_broken}
use Rattle.marking.proofs.breaking.break_script.Goals as goal

pub break_rule-requires : goal.break_rule-requires
break_rule-requires c =
    script_breakable _ _ _ _ _ _ _ _ c.requires c.size.ensures c.copy.ensures

pub returns : goal.returns
returns c =
    script_broken _ _ _ _ _ _ _ _ c.requires c.size.ensures c.copy.ensures _ _ c.break_rule.ensures
