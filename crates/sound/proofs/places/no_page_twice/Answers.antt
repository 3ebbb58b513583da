-- `sound::places::no_page_twice` meets its contract: what the loop keeps from turn to turn is what the definition says.
use Rattle.std.proofs.Common.{arith, refl, sym, ◌∙◌}
use Rattle.model.specs.Sound.{no_page_twice}
use Rattle.model.specs.State.{transaction_at}
use Rattle.parts.proofs.Loops.{every_more, every_none, every_stops, every_whole}
use Rattle.sound.proofs.Asked.{reached}
use Rattle.sound.proofs.Marked.{anew, anew_fresh, held_more}
use Rattle.sound.specs.Marks.{held_marks, with_held}
use Rattle.sound.proofs.places.no_page_twice.Goals as goal

pub loop-t-init : goal.loop-t-init
unfolding held_marks
loop-t-init c = (every_none _, refl)

pub fresh_pages-requires : goal.fresh_pages-requires
unfolding transaction_at
fresh_pages-requires c = reached _ c.requires.0 c.requires.1 c.loop-t.t-index c.loop-t-test.true

pub set_held-requires : goal.set_held-requires
unfolding transaction_at
set_held-requires c = (omega arith, reached _ c.requires.0 c.requires.1 c.loop-t.t-index c.loop-t-test.true)

pub returns-then-not-fresh_pages : goal.returns-then-not-fresh_pages
unfolding no_page_twice transaction_at
returns-then-not-fresh_pages c =
    let fits = reached _ c.requires.0 c.requires.1 c.loop-t.t-index c.loop-t-test.true in
    sym
    (every_stops (anew c.args.transactions.now) c.loop-t-test.true
    (anew_fresh _ _ fits c.loop-t.invariant.1 ∙ sym c.fresh_pages.ensures ∙ c.if-not-fresh_pages.true))

pub loop-t-preserved : goal.loop-t-preserved
unfolding transaction_at with_held
loop-t-preserved c =
    let fits = reached _ c.requires.0 c.requires.1 c.loop-t.t-index c.loop-t-test.true in (
      every_more _ (anew c.args.transactions.now) c.loop-t.invariant.0
          (anew_fresh _ _ fits c.loop-t.invariant.1 ∙ sym c.fresh_pages.ensures ∙ c.if-not-fresh_pages.false),
      c.set_held.ensures ∙ held_more _ _ c.loop-t.invariant.1,
    )

pub returns : goal.returns
unfolding no_page_twice
returns c = sym (every_whole (anew c.args.transactions.now) c.loop-t.auto.t-index-end c.loop-t-test.false c.loop-t.invariant.0)
