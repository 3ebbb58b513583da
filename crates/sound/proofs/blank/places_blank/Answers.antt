-- `sound::blank::places_blank` meets its contract: it asks of each transaction what the definition does.
use Rattle.std.proofs.Common.{rules, ltb}
use Rattle.std.specs.Prelude.{Bool}
use borrow.Author.Tests.{tests}
use Rattle.parts.proofs.Loops.{all_listed}
use Rattle.isa.specs.Tests.{◌or◌}
use Rattle.model.specs.declared.Transaction.{Transaction}
use Rattle.model.specs.Constants.{PLACES}
use Rattle.model.specs.Tests.{every}
use Rattle.model.specs.State.{page, same_page, page_at, count_of, transaction_at}
use Rattle.model.specs.Sound.{places_blank}
use Rattle.sound.proofs.blank.places_blank.Goals as goal

abbrev blank : Transaction → Bool
blank t = every PLACES (λ i. ltb i (count_of t) or same_page (page_at t i) (page 0))

pub returns : goal.returns
unfolding places_blank transaction_at
returns c = all_listed blank _ c.args.transactions.now _ c.all.ensures.ran (cc) (λ x b q k. search (rules, tests)) (search rules)
