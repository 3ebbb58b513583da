-- `run`: what it gives is what the steps up to no call leave, part by part.
use Rattle.std.proofs.Common.{ap}
use Rattle.model.specs.ToCall.{WentToCall}
use Rattle.creamtally.specs.Left.{left_by_run, walk_of}
use Rattle.creamtally.proofs.run.Goals as goal

pub returns : goal.returns
unfolding walk_of
returns c =
    ap (λ (w : WentToCall). left_by_run (record { answer = w.result.answer; machine = w.result.machine; count = w.result.count }) w.memory)
    c.walk-walked.ensures
