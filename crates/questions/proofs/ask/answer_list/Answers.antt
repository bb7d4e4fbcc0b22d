-- `ask::answer_list` meets its contract: the sheet is tightened in the workspace, and each question answered from a word there. Assumes nothing.
use Rattle.questions.proofs.Promised.{ask_five, ask_answered}
use Rattle.questions.proofs.ask.answer_list.Goals as goal

pub returns-then-tighten_sheet : goal.returns-then-tighten_sheet
returns-then-tighten_sheet c = ask_five _ _ _ _ _ c.requires c.if-tighten_sheet.ensures

pub returns : goal.returns
returns c = ask_answered _ _ _ _ _ c.requires c.if-tighten_sheet.ensures _ _ c.count.ensures c.answer_all.ensures
