-- `sound::deals::parties_differ` meets its contract: it asks of each transaction what the definition does.
use Rattle.std.proofs.Common.{rules}
use borrow.Author.Tests.{tests}
use Rattle.model.specs.Sound.{parties_differ}
use Rattle.sound.proofs.Each.{all_deals}
use Rattle.sound.proofs.deals.parties_differ.Goals as goal

pub returns : goal.returns
unfolding parties_differ
returns c = all_deals _ _ c.all.ensures.ran (cc) (λ x b q k. search (rules, tests)) (search rules)
