-- The loop's invariant: the first p records are set, each by its owner.
use Rattle.std.proofs.Common.{◌≡◌}
use Rattle.model.specs.Row.{free_row}
use Rattle.model.specs.State.{page, record_at}
use Rattle.model.specs.Tests.{set_each}
use Rattle.sound.proofs.records.free_rows.Given as goal

abbrev pub invariant-loop-p : goal.invariant-loop-p
invariant-loop-p l = l.rows ≡ set_each l.p (λ k. k) (λ k. free_row (record_at l.records (page k)).owner) l.records
