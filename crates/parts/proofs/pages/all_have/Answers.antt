-- `parts::pages::all_have`: each page that the iterator yields stands at its place among the pages, and so has a record.
use Rattle.std.proofs.Common.{arith, rules, ◌<◌}
use Rattle.std.proofs.lemmas.Iterator.{YieldsList-from_slice}
use Rattle.std.proofs.lemmas.Iterator.Adapters.{serves_from_places}
use Rattle.std.proofs.lemmas.List.{get_or_read}
use Rattle.model.specs.Constants.{PAGES}
use Rattle.model.specs.State.{page}
use Rattle.parts.proofs.pages.all_have.Goals as goal

pub all-requires-clause-callable : goal.all-requires-clause-callable
all-requires-clause-callable c =
    serves_from_places (YieldsList-from_slice c.args.pages.now c.iter.ensures.rest) (λ x q r. search rules) (λ x k h e.
    let below : x.now.0 < PAGES = rw (get_or_read c.args.pages.now k x.now h e (page 0)) (c.requires k h) in search (arith, rules))
