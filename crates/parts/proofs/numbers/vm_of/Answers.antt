use Rattle.parts.proofs.Named.{vm_below, vm_beyond}
use Rattle.parts.proofs.numbers.vm_of.Goals as goal

pub returns-then-w-n : goal.returns-then-w-n
returns-then-w-n c = vm_below _ _ c.if-w-n.true

pub returns-else-w-n : goal.returns-else-w-n
returns-else-w-n c = vm_beyond _ _ c.if-w-n.false
