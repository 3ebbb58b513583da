-- The loop's invariant: the run of what is left comes to the same end; the memory and the buffer are as long as they were; and the
-- machine and the memory are what a run of the used budget leaves. The measure is what is left of the budget.
use Rattle.std.proofs.Common.{◌≡◌, ◌-◌, ◌≤◌, length}
use Rattle.model.specs.State.{state}
use Rattle.show.specs.Reached.{reached}
use Rattle.show.specs.Told.{rest_of}
use Rattle.show.proofs.run.play.Given as goal

abbrev pub invariant-loop-m : goal.invariant-loop-m
invariant-loop-m l =
    ((rest_of l.budget l.left l.m l.mem).end ≡ (rest_of l.budget l.budget l.initial.m l.initial.mem).end)
    × (l.left ≤ l.budget)
    × (length l.mem ≡ length l.initial.mem)
    × (length l.out ≡ 8192)
    × (state l.m l.mem ≡ reached l.initial.m l.initial.mem (l.budget - l.left))

abbrev pub decreases-loop-m : goal.decreases-loop-m
decreases-loop-m l = l.left
