-- What passing handle calls do to the machine: from a handle and its deal, with no caller and no registers.
use Rattle.std.specs.Prelude.{Bool, true, false, cond, List, set, replicate, None, Some}
use Rattle.model.specs.declared.Handle.{Handle}
use Rattle.model.specs.declared.PageRecord.{PageRecord}
use Rattle.model.specs.declared.Deal.{Deal}
use Rattle.model.specs.declared.Transaction.{Transaction}
use Rattle.model.specs.declared.Machine.{Machine}
use Rattle.model.specs.Constants.{PLACES}
use Rattle.model.specs.Tests.{set_each}
use Rattle.model.specs.State.{page, transaction_at, page_at, count_of, with_pages}
use Rattle.model.specs.Row.{donates, owned_row, row}

-- every page of the transaction gets the record
unfoldable pub recorded : List PageRecord → Transaction → PageRecord → List PageRecord
recorded records t new = set_each (count_of t) (λ i. (page_at t i).0) (λ i. new) records

-- handle h's place holds the transaction new, and the pages of t get the record due
unfoldable pub settled : Machine → Handle → Transaction → Transaction → PageRecord → Machine
settled m h new t due = with_pages m (recorded m.records t due) (set m.transactions h.0 new)

abbrev pub freed : Transaction
freed = record { deal = None; pages = replicate PLACES (page 0) }

unfoldable pub marked : Deal → Bool → Deal
marked d retrieved =
    record { sender = d.sender; receiver = d.receiver; kind = d.kind; retrieved = retrieved; count = d.count }

-- the same pages under another deal
unfoldable pub redealt : Transaction → Deal → Transaction
redealt t d = record { deal = Some d; pages = t.pages }

-- retrieving: the pages of a donation become the receiver's own, and its handle is done with; others are marked
unfoldable pub retrieved : Machine → Handle → Deal → Machine
retrieved m h d =
    settled m h
    (cond (donates d.kind) freed (redealt (transaction_at m.transactions h) (marked d true)))
    (transaction_at m.transactions h)
    (cond (donates d.kind) (owned_row d.receiver) (row (marked d true)))

-- relinquishing: the mark goes
unfoldable pub relinquished : Machine → Handle → Deal → Machine
relinquished m h d =
    settled m h
    (redealt (transaction_at m.transactions h) (marked d false))
    (transaction_at m.transactions h)
    (row (marked d false))

-- reclaiming: the pages are the sender's own again, and the handle is done with
unfoldable pub reclaimed : Machine → Handle → Deal → Machine
reclaimed m h d = settled m h freed (transaction_at m.transactions h) (owned_row d.sender)
