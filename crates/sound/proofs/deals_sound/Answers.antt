-- `sound::deals_sound` meets its contract: each clause is what its function answers.
use Rattle.isa.specs.Tests.{◌and◌}
use Rattle.sound.proofs.Whole.{page_counts_known}
use Rattle.sound.proofs.deals_sound.Goals as goal

pub pages_ascend-requires : goal.pages_ascend-requires
pages_ascend-requires c = page_counts_known c.args.counted.now.machine.now c.args.counted.now.counts

pub returns : goal.returns
unfolding ◌and◌
returns c = rw (c.parties_differ.ensures, c.pages_ascend.ensures, c.no_donation_retrieved.ensures)
