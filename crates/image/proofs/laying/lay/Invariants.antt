-- What is laid from `at` on, over the memory now, is what the whole image means. The measure is what is left of the image.
use Rattle.std.proofs.Common.{length, ◌-◌}
use Rattle.image.proofs.Turns.{Laying}
use Rattle.image.proofs.laying.lay.Given as goal

abbrev pub invariant-loop-whole : goal.invariant-loop-whole
invariant-loop-whole l = Laying l.bytes (length l.fn.mem) l.at l.mem

abbrev pub decreases-loop-whole : goal.decreases-loop-whole
decreases-loop-whole l = length l.bytes - l.at
