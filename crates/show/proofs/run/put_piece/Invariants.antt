-- The loop's invariant: what the buffer has so far, and what is to come behind it, is the whole; the memory is as long as it was;
-- and the machine and the memory are what a run of the used budget leaves. The measure is what is left of the budget.
use Rattle.std.proofs.Common.{◌≡◌, ◌-◌, length, true}
use Rattle.model.specs.State.{state}
use Rattle.show.specs.Reached.{reached}
use Rattle.show.specs.Told.{rest_of}
use Rattle.show.proofs.Putting.{Putting}
use Rattle.show.proofs.run.put_piece.Given as goal

abbrev pub invariant-loop-out : goal.invariant-loop-out
invariant-loop-out l =
    Putting (rest_of l.budget l.left l.fn.machine l.initial.mem) l.budget l.left (length l.initial.out) l.piece.left l.piece.machine l.mem l.out l.piece.end
    × (length l.mem ≡ length l.initial.mem)
    × (state l.piece.machine l.mem ≡ reached l.fn.machine l.initial.mem (l.left - l.piece.left))
    × (l.piece.more ≡ true)

abbrev pub decreases-loop-out : goal.decreases-loop-out
decreases-loop-out l = l.piece.left
