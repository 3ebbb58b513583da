-- The loop's invariant: the rows of the first g guests' mailboxes are laid.
use Rattle.std.proofs.Common.{◌≡◌}
use Rattle.sound.specs.Rows.{box_rows}
use Rattle.sound.proofs.records.box_rows.Given as goal

abbrev pub invariant-loop-g : goal.invariant-loop-g
invariant-loop-g l = l.all ≡ box_rows l.g l.boxes l.initial.all
