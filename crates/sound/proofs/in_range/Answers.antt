-- `sound::in_range` meets its contract: each clause is what its function answers.
use Rattle.isa.specs.Tests.{◌and◌}
use Rattle.sound.proofs.Whole.{few_guests, page_counts_known}
use Rattle.sound.proofs.in_range.Goals as goal

pub mailboxes_below-requires : goal.mailboxes_below-requires
mailboxes_below-requires c = few_guests c.args.counted.now.machine.now c.args.counted.now.counts

pub pages_below-requires : goal.pages_below-requires
pages_below-requires c = page_counts_known c.args.counted.now.machine.now c.args.counted.now.counts

pub returns : goal.returns
unfolding ◌and◌
returns c = rw (c.mailboxes_below.ensures, c.owners_below.ensures, c.parties_below.ensures, c.pages_below.ensures)
