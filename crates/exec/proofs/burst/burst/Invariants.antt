-- What is left of the budget, from here, leaves what the whole budget leaves from the start, and the memory is as long as it
-- was.
use Rattle.std.proofs.Common.{length, ◌≡◌}
use Rattle.exec.specs.Burst.{burst_of}
use Rattle.exec.specs.Maps.{by_maps}
use Rattle.exec.proofs.burst.burst.Given as goal

abbrev pub invariant-loop-left : goal.invariant-loop-left
invariant-loop-left l =
    (length l.mem ≡ length l.fn.mem)
    × (burst_of (by_maps l.maps.loads l.maps.stores) l.left l.file l.mem
    ≡ burst_of (by_maps l.maps.loads l.maps.stores) l.budget l.fn.file l.fn.mem)
