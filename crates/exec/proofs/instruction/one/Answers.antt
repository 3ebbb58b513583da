-- A word that may not be fetched, or is none, changes nothing; any other does what its fields mean.
use Rattle.std.proofs.Common.{refl}
use Rattle.model.specs.Execute.{guest_step}
use Rattle.model.specs.Memory.{fetched}
use Rattle.exec.proofs.Moves.{asked_false, asked_inside, fails, passes, word_faults, word_performed}
use Rattle.exec.specs.Turn.{turn_of}
use Rattle.exec.proofs.instruction.one.Goals as goal

pub returns-then-not-may_reach : goal.returns-then-not-may_reach
unfolding turn_of guest_step
returns-then-not-may_reach c = asked_false _ _ _ refl c.may_reach.ensures _ _ c.if-not-may_reach.true

pub bounds-mem-at : goal.bounds-mem-at
bounds-mem-at c = asked_inside _ _ _ c.may_reach.ensures c.if-not-may_reach.false

pub returns-then-not-legal : goal.returns-then-not-legal
unfolding fetched
returns-then-not-legal c =
    word_faults
    _
    _
    _
    _
    c.fields_of-f.ensures
    c.may_reach.ensures
    c.if-not-may_reach.false
    (fails c.legal.ensures c.if-not-legal.true)

pub returns : goal.returns
unfolding fetched
returns c =
    word_performed
    _
    _
    _
    _
    c.fields_of-f.ensures
    c.may_reach.ensures
    c.if-not-may_reach.false
    (passes c.legal.ensures c.if-not-legal.false)
    c.perform.ensures
