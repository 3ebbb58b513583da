-- Without access nothing changes, with it Rd becomes the word at Rs.
use Rattle.std.proofs.Common.{refl}
use Rattle.model.specs.Execute.{perform}
use Rattle.model.specs.Memory.{loaded}
use Rattle.exec.proofs.Moves.{asked_false, asked_inside, asked_true, gets_done, one_read}
use Rattle.exec.specs.Turn.{performs}
use Rattle.exec.proofs.instruction.load.Goals as goal

pub returns-then-not-may_reach : goal.returns-then-not-may_reach
unfolding performs perform
returns-then-not-may_reach c = asked_false _ _ _ c.get-x.ensures c.may_reach.ensures _ _ c.if-not-may_reach.true

pub bounds-mem-x : goal.bounds-mem-x
bounds-mem-x c = asked_inside _ _ _ c.may_reach.ensures c.if-not-may_reach.false

pub returns : goal.returns
unfolding perform loaded
returns c =
    gets_done _ _ _ _ _
    (asked_true _ _ _ c.get-x.ensures c.may_reach.ensures _ c.if-not-may_reach.false)
    (one_read (loaded c.args.mem.now) refl c.get-x.ensures)
    c.gets.ensures
