-- It begins, and where nothing is cut it has come to the end.
use Rattle.image.proofs.Turns.{laying_begins, laying_stops}
use Rattle.image.proofs.laying.lay.Goals as goal

pub loop-whole-init : goal.loop-whole-init
loop-whole-init c = laying_begins _ _ c.clear.ensures

pub returns : goal.returns
returns c = laying_stops c.loop-whole.invariant c.cut_image.ensures c.in_default.is
