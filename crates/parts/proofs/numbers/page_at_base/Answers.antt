use Rattle.isa.specs.Tests.{◌and◌}
use Rattle.model.specs.Sending.{is_base}
use Rattle.parts.proofs.Named.{page_based, page_missed}
use Rattle.parts.proofs.numbers.page_at_base.Goals as goal

pub returns-then-x-p : goal.returns-then-x-p
unfolding is_base ◌and◌
returns-then-x-p c = page_based c.args.x c.args.m c.if-x-p.true

pub returns-else-x-p : goal.returns-else-x-p
unfolding is_base ◌and◌
returns-else-x-p c = page_missed c.args.x c.args.m c.if-x-p.false
