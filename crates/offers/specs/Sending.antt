-- What a sending that passes leaves, by what its descriptor asks for, and what it asks.
use Rattle.std.specs.Prelude.{ℕ, ◌≤◌, ◌<◌, true, ◌≡◌, get_or}
use Rattle.model.specs.declared.Kind.{Kind}
use Rattle.model.specs.declared.Deal.{Deal}
use Rattle.model.specs.declared.Machine.{Machine}
use Rattle.model.specs.Constants.{GUESTS, PAGES, PLACES}
use Rattle.model.specs.State.{page}
use Rattle.model.specs.Row.{row}
use Rattle.model.specs.Reply.{succeeded}
use Rattle.model.specs.Sending.{lowest_free, granted, new_deal, sent_under, with_handle}
use Rattle.model.specs.Frame.{dealt}
use Rattle.offers.specs.declared.descriptor.Proposal.{Proposal}

abbrev pub deal_by : Kind → Machine → Proposal → Deal
deal_by kind m p = new_deal kind m.current p.receiver p.count

unfoldable pub sent_by : Kind → Machine → Proposal → Machine
sent_by kind m p =
    with_handle
    (succeeded (sent_under m (dealt (deal_by kind m p) p.pages) (row (deal_by kind m p))))
    (lowest_free m.transactions)

pub record Sendable (m : Machine) (p : Proposal) : Type 0 where
  pub caller_below : m.current.0 < GUESTS
  pub receiver_below : p.receiver.0 < GUESTS
  pub few : p.count ≤ PLACES
  pub pages_below : (i : ℕ) → i < p.count → (get_or p.pages i (page 0)).0 < PAGES
  pub handle_free : granted m m.current ≡ true
