use Rattle.creamtally.proofs.Walks.{one_step}
use Rattle.creamtally.proofs.step.Goals as goal

pub returns : goal.returns
returns c = one_step _ _ c.walk-walked.ensures c.then_mode.ensures
