use mathlib.Core.Path.{sym}
use lib.Seq.{length-take-le}
use Rattle.show.proofs.Courses.{has_room, loaded_run}
use Rattle.show.proofs.perform.Goals as goal

pub slice_bounds-mem-end : goal.slice_bounds-mem-end
slice_bounds-mem-end c = has_room _ c.requires

-- the part that is lent
pub slice_bounds-mem-end-2 : goal.slice_bounds-mem-end-2
slice_bounds-mem-end-2 c = sym (length-take-le _ _ (has_room _ c.requires))

pub returns : goal.returns
returns c =
    let lent = length-take-le _ _ (has_room _ c.requires) in
    rw (← loaded_run _ _ _ c.requires lent c.load-loaded.ensures) c.play.ensures.ok
