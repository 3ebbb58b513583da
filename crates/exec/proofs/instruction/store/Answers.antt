-- Without access nothing changes, with it the word at Rs becomes Rd.
use Rattle.std.proofs.Common.{refl, set}
use Rattle.model.specs.Execute.{perform}
use Rattle.exec.proofs.Moves.{asked_false, asked_inside, asked_true, stores_done, two_read}
use Rattle.exec.specs.Turn.{performs}
use Rattle.exec.proofs.instruction.store.Goals as goal

pub returns-then-not-may_reach : goal.returns-then-not-may_reach
unfolding performs perform
returns-then-not-may_reach c = asked_false _ _ _ c.get-x.ensures c.may_reach.ensures _ _ c.if-not-may_reach.true

pub bounds-mem-x : goal.bounds-mem-x
bounds-mem-x c = asked_inside _ _ _ c.may_reach.ensures c.if-not-may_reach.false

pub returns : goal.returns
unfolding perform
returns c =
    stores_done _ _ _ _
    (asked_true _ _ _ c.get-x.ensures c.may_reach.ensures _ c.if-not-may_reach.false)
    (two_read (set c.args.mem.now) refl c.get-x.ensures c.get.ensures)
    c.goes_on.ensures
