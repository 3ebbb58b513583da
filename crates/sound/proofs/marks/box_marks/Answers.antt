-- `sound::marks::box_marks` meets its contract: what the loop keeps from turn to turn is what the definition says.
use Rattle.std.proofs.Common.{arith, refl, length, take, ◌≡◌, ◌∙◌}
use Rattle.std.proofs.lemmas.List.{length-take-le}
use Rattle.model.specs.State.{mailbox_at}
use Rattle.sound.specs.Marks.{box_marks, with_box}
use Rattle.sound.proofs.Asked.{box_reached, box_taken}
use Rattle.sound.proofs.Marked.{box_more}
use Rattle.sound.proofs.marks.box_marks.Goals as goal

pub loop-mailbox-init : goal.loop-mailbox-init
unfolding box_marks
loop-mailbox-init c = refl

pub set_box-requires : goal.set_box-requires
unfolding mailbox_at
set_box-requires c = (omega arith, box_reached c.args.n c.args.boxes.now c.requires.1 c.loop-mailbox.mailbox-index c.loop-mailbox-test.true)

pub loop-mailbox-preserved : goal.loop-mailbox-preserved
unfolding mailbox_at with_box
loop-mailbox-preserved c =
    c.set_box.ensures
    ∙ rw (box_taken c.args.n c.args.boxes.now c.loop-mailbox.mailbox-index c.loop-mailbox-test.true)
    (box_more _ _ c.loop-mailbox.invariant)

pub returns : goal.returns
returns c =
    let whole : length (take c.args.n c.args.boxes.now) ≡ c.args.n = length-take-le c.args.n c.args.boxes.now (omega arith) in
    let all : c.loop-mailbox.mailbox-index ≡ c.args.n = omega arith in
    rw (← all) c.loop-mailbox.invariant
