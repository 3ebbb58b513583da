-- `sound::records::held_rows` meets its contract: what the loop keeps from turn to turn is what the definition says.
use Rattle.std.proofs.Common.{arith, rules, refl, ◌∙◌}
use Rattle.model.specs.Deeds.{recorded}
use Rattle.model.specs.State.{transaction_at}
use Rattle.sound.proofs.Asked.{held}
use Rattle.sound.proofs.Dues.{laid_more, laid_whole}
use Rattle.sound.specs.Rows.{held_rows, laid, with_row}
use Rattle.sound.proofs.records.held_rows.Goals as goal

pub loop-t-init : goal.loop-t-init
unfolding held_rows laid
loop-t-init c = refl

pub held_row-requires : goal.held_row-requires
unfolding transaction_at
held_row-requires c = held _ c.requires.0 c.requires.1 c.requires.2 c.loop-t.t-index c.loop-t-test.true

pub set_held-requires : goal.set_held-requires
unfolding transaction_at
set_held-requires c = (omega arith, (held _ c.requires.0 c.requires.1 c.requires.2 c.loop-t.t-index c.loop-t-test.true).reached)

pub loop-t-preserved : goal.loop-t-preserved
unfolding held_rows with_row recorded transaction_at
loop-t-preserved c = c.set_held.ensures ∙ rw c.held_row.ensures (laid_more _ _ _ c.loop-t.invariant)

pub returns : goal.returns
unfolding held_rows
returns c = record { rows = laid_whole _ _ c.loop-t.auto.t-index-end c.loop-t-test.false c.loop-t.invariant; places = search rules }
