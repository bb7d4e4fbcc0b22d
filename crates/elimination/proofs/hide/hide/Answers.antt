-- `hide::hide` meets its contract: pairing, then clearing. Assumes nothing.
use Rattle.elimination.proofs.Promised.{paired_alone, hidden_done}
use Rattle.elimination.proofs.hide.hide.Goals as goal

pub returns : goal.returns
returns c =
    hidden_done _ _ _ _ _ _ _ c.requires.step_ready.ready (paired_alone _ _ c.args.live.now _ _ _ c.requires.step_ready.ready c.requires.names_alone c.pair-contradiction.ensures)
    c.clear.ensures
