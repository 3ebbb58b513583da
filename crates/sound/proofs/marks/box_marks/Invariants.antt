-- The loop's invariant: the mailbox pages of the guests that it has come past are marked, and no others.
use Rattle.std.proofs.Common.{◌≡◌}
use Rattle.sound.specs.Marks.{box_marks}
use Rattle.sound.proofs.marks.box_marks.Given as goal

abbrev pub invariant-loop-mailbox : goal.invariant-loop-mailbox
invariant-loop-mailbox l = l.marks ≡ box_marks l.mailbox-index l.boxes
