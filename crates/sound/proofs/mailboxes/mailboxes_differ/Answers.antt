-- `sound::mailboxes::mailboxes_differ` meets its contract: what the loop keeps from turn to turn is what the definition
-- says.
use Rattle.std.proofs.Common.{arith, refl, sym, ◌∙◌}
use Rattle.model.specs.Sound.{mailboxes_differ}
use Rattle.model.specs.State.{mailbox_at}
use Rattle.parts.proofs.Loops.{every_more, every_none, every_stops, every_whole}
use Rattle.sound.proofs.Asked.{mailbox_below}
use Rattle.sound.proofs.Marked.{alone, alone_fresh, box_more}
use Rattle.sound.specs.Marks.{box_marks, with_box}
use Rattle.sound.proofs.mailboxes.mailboxes_differ.Goals as goal

pub loop-g-init : goal.loop-g-init
unfolding box_marks
loop-g-init c = (every_none _, refl)

pub fresh_box-requires : goal.fresh_box-requires
unfolding mailbox_at
fresh_box-requires c = mailbox_below _ _ _ c.requires.1 c.loop-g.g c.loop-g-test.true

pub set_box-requires : goal.set_box-requires
unfolding mailbox_at
set_box-requires c = (omega arith, mailbox_below _ _ _ c.requires.1 c.loop-g.g c.loop-g-test.true)

pub returns-then-not-fresh_box : goal.returns-then-not-fresh_box
unfolding mailboxes_differ mailbox_at
returns-then-not-fresh_box c =
    let fits = mailbox_below _ _ _ c.requires.1 c.loop-g.g c.loop-g-test.true in
    sym
    (every_stops (alone c.args.boxes.now) c.loop-g-test.true
    (alone_fresh _ _ fits c.loop-g.invariant.1 ∙ sym c.fresh_box.ensures ∙ c.if-not-fresh_box.true))

pub loop-g-preserved : goal.loop-g-preserved
unfolding mailbox_at with_box
loop-g-preserved c =
    let fits = mailbox_below _ _ _ c.requires.1 c.loop-g.g c.loop-g-test.true in (
      every_more _ (alone c.args.boxes.now) c.loop-g.invariant.0
          (alone_fresh _ _ fits c.loop-g.invariant.1 ∙ sym c.fresh_box.ensures ∙ c.if-not-fresh_box.false),
      c.set_box.ensures ∙ box_more _ _ c.loop-g.invariant.1,
    )

pub returns : goal.returns
unfolding mailboxes_differ
returns c = sym (every_whole (alone c.args.boxes.now) (omega arith) c.loop-g-test.false c.loop-g.invariant.0)
