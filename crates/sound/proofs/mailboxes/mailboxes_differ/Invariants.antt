-- The loop's invariant: the pages of the first g guests differ, and they are the marked ones.
use Rattle.std.proofs.Common.{true, ◌≡◌}
use Rattle.model.specs.Tests.{every}
use Rattle.sound.specs.Marks.{box_marks}
use Rattle.sound.proofs.Marked.{alone}
use Rattle.sound.proofs.mailboxes.mailboxes_differ.Given as goal

abbrev pub invariant-loop-g : goal.invariant-loop-g
invariant-loop-g l = (every l.g (alone l.boxes) ≡ true) × (l.seen ≡ box_marks l.g l.boxes)
