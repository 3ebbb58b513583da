-- `control::send::addressed` meets its contract: what is open is the verdict where R1 names a guest, a law for each
-- way out, and what is known of the two that go out.
use Rattle.std.proofs.Common.{arith, refl}
use Rattle.model.specs.State.{same_vm, inbox_at}
use Rattle.parts.specs.Refusal.{code_of, verdict_of}
use Rattle.parts.proofs.Named.{named_below}
use Rattle.control.proofs.Message.{to_busy, to_free, to_itself}
use Rattle.control.proofs.send.addressed.Goals as goal

pub returns-then-eq-clause-verdict : goal.returns-then-eq-clause-verdict
unfolding same_vm code_of verdict_of
returns-then-eq-clause-verdict c =
    to_itself c.args.machine.now c.argument.ensures c.vm_of.ensures c.in_ok-receiver.ensures.ok_part c.eq.ensures
    c.if-eq.true

pub returns-then-busy-clause-verdict : goal.returns-then-busy-clause-verdict
unfolding same_vm inbox_at code_of verdict_of
returns-then-busy-clause-verdict c =
    to_busy c.args.machine.now c.argument.ensures c.vm_of.ensures c.in_ok-receiver.ensures.ok_part c.eq.ensures
    c.if-eq.false
    (grind arith)
    (grind arith)
    refl
    c.is_some-busy.ensures
    c.if-busy.true

pub returns-clause-verdict : goal.returns-clause-verdict
unfolding same_vm inbox_at code_of verdict_of
returns-clause-verdict c =
    to_free c.args.machine.now c.argument.ensures c.vm_of.ensures c.in_ok-receiver.ensures.ok_part c.eq.ensures
    c.if-eq.false
    (grind arith)
    (grind arith)
    refl
    c.is_some-busy.ensures
    c.if-busy.false

pub returns-clause-within : goal.returns-clause-within
returns-clause-within c = (grind (arith, named_below), grind arith)
