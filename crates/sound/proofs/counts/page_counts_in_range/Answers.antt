-- `sound::counts::page_counts_in_range` meets its contract: it asks of each transaction what the definition does.
use Rattle.std.proofs.Common.{rules}
use borrow.Author.Tests.{tests}
use Rattle.model.specs.Sound.{page_counts_in_range}
use Rattle.sound.proofs.Each.{all_deals}
use Rattle.sound.proofs.counts.page_counts_in_range.Goals as goal

pub returns : goal.returns
unfolding page_counts_in_range
returns c = all_deals _ _ c.all.ensures.ran (cc) (λ x b q k. search (rules, tests)) (search rules)
