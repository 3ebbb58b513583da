-- `sound::places::pages_below` meets its contract: it asks of the pages of each transaction what the definition does.
use Rattle.std.proofs.Common.{rules}
use Rattle.std.proofs.lemmas.Iterator.{YieldsList-from_slice}
use Rattle.std.proofs.lemmas.Iterator.Adapters.{serves_from_places}
use borrow.Author.Tests.{tests}
use Rattle.model.specs.Sound.{pages_below}
use Rattle.sound.proofs.Each.{all_pages, few_listed}
use Rattle.sound.proofs.places.pages_below.Goals as goal

pub all-requires-clause-callable : goal.all-requires-clause-callable
all-requires-clause-callable c =
    serves_from_places (YieldsList-from_slice c.args.transactions.now (cc)) (λ x q k. search rules) (λ x k b at. let few = few_listed _ c.requires (search rules) x.now k b at in search rules)

pub returns : goal.returns
unfolding pages_below
returns c = all_pages _ _ c.all.ensures.ran (cc) (λ x b q k. search (rules, tests)) (search rules)
