-- The loop's invariant: the rows of the transactions that it has come past are laid.
use Rattle.std.proofs.Common.{◌≡◌}
use Rattle.sound.specs.Rows.{held_rows}
use Rattle.sound.proofs.records.held_rows.Given as goal

abbrev pub invariant-loop-t : goal.invariant-loop-t
invariant-loop-t l = l.all ≡ held_rows l.t-index l.transactions l.initial.all
