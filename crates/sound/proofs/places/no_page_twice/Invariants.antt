-- The loop's invariant: no page is in two of the transactions that it has come past, and their pages are the marked ones.
use Rattle.std.proofs.Common.{true, ◌≡◌}
use Rattle.model.specs.Tests.{every}
use Rattle.sound.specs.Marks.{held_marks}
use Rattle.sound.proofs.Marked.{anew}
use Rattle.sound.proofs.places.no_page_twice.Given as goal

abbrev pub invariant-loop-t : goal.invariant-loop-t
invariant-loop-t l = (every l.t-index (anew l.transactions) ≡ true) × (l.seen ≡ held_marks l.t-index l.transactions)
