-- The loop of `advance` keeps: the state is fit and in normal mode, and what is left to be run from it is the rest of the whole
-- run; the maps of each marked guest are those of its rights; the memory is as long as it was. The measure is what is left of
-- the budget.
use Rattle.std.proofs.Common.{length, ◌≡◌}
use Rattle.model.specs.State.{state}
use Rattle.runs.proofs.Ready.{ReadyFor}
use Rattle.runs.proofs.Rounds.{Going}
use Rattle.runs.specs.Advance.{advance_of}
use Rattle.runs.proofs.advance.Given as goal

abbrev pub invariant-loop-left : goal.invariant-loop-left
invariant-loop-left l =
    Going (advance_of l.to_call l.fn.budget (state l.fn.machine l.fn.mem)) l.to_call l.left l.m l.mem
    × (ReadyFor l.m l.kept × (length l.mem ≡ length l.fn.mem))

abbrev pub decreases-loop-left : goal.decreases-loop-left
decreases-loop-left l = l.left
