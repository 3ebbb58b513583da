-- What is judged from `at` on is what is judged of the whole image, and the numbers of guests and pages so far are in range. The
-- measure is what is left of the image.
use Rattle.std.proofs.Common.{length, ◌-◌}
use Rattle.image.proofs.Turns.{Judging}
use Rattle.image.proofs.judging.judge.Given as goal

abbrev pub invariant-loop-at : goal.invariant-loop-at
invariant-loop-at l = Judging l.bytes l.at l.draft

abbrev pub decreases-loop-at : goal.decreases-loop-at
decreases-loop-at l = length l.bytes - l.at
