-- `sound::records::box_rows` meets its contract: what the loop keeps from turn to turn is what the definition says.
use Rattle.std.proofs.Common.{arith, refl, ◌∙◌}
use Rattle.model.specs.State.{mailbox_at}
use Rattle.sound.proofs.Asked.{mailbox_below}
use Rattle.sound.proofs.Dues.{laid_more, laid_whole}
use Rattle.sound.specs.Rows.{box_row, box_rows, laid}
use Rattle.sound.proofs.records.box_rows.Goals as goal

pub loop-g-init : goal.loop-g-init
unfolding box_rows laid
loop-g-init c = refl

pub set_box-requires : goal.set_box-requires
unfolding mailbox_at
set_box-requires c = (omega arith, mailbox_below _ _ _ c.requires.1 c.loop-g.g c.loop-g-test.true)

pub loop-g-preserved : goal.loop-g-preserved
unfolding box_rows box_row mailbox_at
loop-g-preserved c = c.set_box.ensures ∙ rw c.mailbox_row.ensures (laid_more _ _ _ c.loop-g.invariant)

pub returns : goal.returns
unfolding box_rows
returns c = laid_whole _ _ c.loop-g.auto.g-end c.loop-g-test.false c.loop-g.invariant
