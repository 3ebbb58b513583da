-- `sound::places::pages_ascend` meets its contract: it asks of the pages of each transaction what the definition does.
use Rattle.std.proofs.Common.{rules}
use Rattle.std.specs.Prelude.{Bool}
use Rattle.std.proofs.lemmas.Iterator.{YieldsList-from_slice}
use Rattle.std.proofs.lemmas.Iterator.Adapters.{serves_from_places}
use borrow.Author.Tests.{tests}
use Rattle.model.specs.declared.Transaction.{Transaction}
use Rattle.model.specs.Tests.{ascending}
use Rattle.model.specs.State.{page_at, count_of, transaction_at}
use Rattle.model.specs.Sound.{pages_ascend}
use Rattle.parts.proofs.Loops.{all_listed}
use Rattle.sound.proofs.Each.{few_listed}
use Rattle.sound.proofs.places.pages_ascend.Goals as goal

abbrev ascend : Transaction → Bool
ascend t = ascending (count_of t) (λ i. (page_at t i).0)

pub all-requires-clause-callable : goal.all-requires-clause-callable
all-requires-clause-callable c =
    serves_from_places (YieldsList-from_slice c.args.transactions.now (cc)) (λ x q k. search rules) (λ x k b at. let few = few_listed _ c.requires (search rules) x.now k b at in search rules)

pub returns : goal.returns
unfolding pages_ascend transaction_at
returns c = all_listed ascend _ c.args.transactions.now _ c.all.ensures.ran (cc) (λ x b q k. search (rules, tests)) (search rules)
