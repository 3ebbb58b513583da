-- `sound::deals::no_donation_retrieved` meets its contract: it asks of each transaction what the definition does.
use Rattle.std.proofs.Common.{rules}
use borrow.Author.Tests.{tests}
use Rattle.model.specs.Sound.{no_donation_retrieved}
use Rattle.sound.proofs.Each.{all_deals}
use Rattle.sound.proofs.deals.no_donation_retrieved.Goals as goal

pub returns : goal.returns
unfolding no_donation_retrieved
returns c = all_deals _ _ c.all.ensures.ran (cc) (λ x b q k. search (rules, tests)) (search rules)
