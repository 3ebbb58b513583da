-- A refused load is no step, and else the machine that was loaded is run.
use Rattle.creamtally.proofs.Answers.{told_done, told_refused}
use Rattle.host.proofs.Ways.{not_loaded, ran}
use Rattle.host.proofs.creamtally_run.Goals as goal

pub returns-then-ne : goal.returns-then-ne
returns-then-ne c = not_loaded _ _ _ _ c.load-loaded.ensures (told_refused _ c.ne.ensures c.if-ne.true)

pub returns : goal.returns
returns c = ran _ _ _ _ c.load-loaded.ensures (told_done _ c.ne.ensures c.if-ne.false) c.run.ensures
