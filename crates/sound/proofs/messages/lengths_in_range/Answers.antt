-- `sound::messages::lengths_in_range` meets its contract: it asks of the message of each guest what the definition does.
use Rattle.std.proofs.Common.{rules}
use borrow.Author.Tests.{tests}
use Rattle.model.specs.Sound.{lengths_in_range}
use Rattle.sound.proofs.Each.{all_messages}
use Rattle.sound.proofs.messages.lengths_in_range.Goals as goal

pub returns : goal.returns
unfolding lengths_in_range
returns c = all_messages _ _ c.all.ensures.ran (cc) (cc) (λ x b q k. search (rules, tests))
