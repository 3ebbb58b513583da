-- `offers::sending::sent`: the handle is one, since the caller is granted one.
use Rattle.std.proofs.Common.{ltb-true, ◌<◌}
use Rattle.model.specs.Constants.{HANDLES}
use Rattle.model.specs.Deeds.{settled}
use Rattle.model.specs.Sending.{granted}
use Rattle.model.specs.State.{count_in, count_of, page_at}
use Rattle.offers.proofs.sending.sent.Goals as goal

pub settled-requires : goal.settled-requires
unfolding page_at count_in count_of granted
settled-requires c =
    let below : c.lowest_free-h.result.0 < HANDLES = rw c.lowest_free-h.ensures (ltb-true _ _ c.requires.handle_free) in
    (below, record { few = c.requires.few; below = c.requires.pages_below })

pub succeeded-done-requires : goal.succeeded-done-requires
unfolding settled
succeeded-done-requires c = rw c.settled.ensures c.requires.caller_below
