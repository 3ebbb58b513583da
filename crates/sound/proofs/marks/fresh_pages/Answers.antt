-- `sound::marks::fresh_pages` meets its contract: it asks of each page what the definition does.
use Rattle.std.proofs.Common.{rules, not}
use Rattle.std.proofs.lemmas.Iterator.{YieldsList-from_slice}
use Rattle.std.proofs.lemmas.Iterator.Adapters.{serves_from_places}
use Rattle.sound.proofs.Asked.{held_below}
use borrow.Author.Tests.{tests}
use Rattle.sound.specs.Marks.{marked}
use Rattle.sound.proofs.Each.{all_held}
use Rattle.sound.proofs.marks.fresh_pages.Goals as goal

pub all-requires-clause-callable : goal.all-requires-clause-callable
all-requires-clause-callable c =
    serves_from_places (YieldsList-from_slice c.held.result.now (cc)) (λ x q k. search rules) (λ x k b at. let fits = held_below _ c.held.result.now c.requires c.held.ensures x.now k b at in search rules)

pub returns : goal.returns
unfolding marked
returns c = all_held (λ p. not (marked c.args.seen.now p)) c.args.t.now _ c.held.ensures c.all.ensures.ran (cc) (λ x b q k. search (rules, tests))
