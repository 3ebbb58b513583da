-- `run_to_call`: what it gives is what the steps up to a call leave.
use Rattle.creamtally.specs.Left.{walk_of}
use Rattle.creamtally.proofs.run_to_call.Goals as goal

pub returns : goal.returns
unfolding walk_of
returns c = c.walk.ensures
