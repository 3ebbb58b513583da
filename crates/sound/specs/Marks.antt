-- Marks: a list with one for each page of the largest machine, true where the page has been met.
use Rattle.std.specs.Prelude.{ℕ, zero, suc, Bool, true, false, List, get_or, set, replicate}
use Rattle.model.specs.declared.PageId.{PageId}
use Rattle.model.specs.declared.Mailbox.{Mailbox}
use Rattle.model.specs.declared.Transaction.{Transaction}
use Rattle.model.specs.Constants.{PAGES}
use Rattle.model.specs.Tests.{set_each}
use Rattle.model.specs.State.{vm, handle, mailbox_at, transaction_at, page_at, count_of}

abbrev pub unmarked : List Bool
unmarked = replicate PAGES false

unfoldable pub marked : List Bool → PageId → Bool
marked seen p = get_or seen p.0 false

-- a guest's mailbox pages are met
unfoldable pub with_box : List Bool → Mailbox → List Bool
with_box seen box = set (set seen box.tx.0 true) box.rx.0 true

-- those of the first n guests
unfoldable pub box_marks : ℕ → List Mailbox → List Bool
box_marks zero boxes = unmarked
box_marks (suc g) boxes = with_box (box_marks g boxes) (mailbox_at boxes (vm g))

-- a transaction's pages are met
unfoldable pub with_held : List Bool → Transaction → List Bool
with_held seen t = set_each (count_of t) (λ i. (page_at t i).0) (λ i. true) seen

-- those of the first n transactions
unfoldable pub held_marks : ℕ → List Transaction → List Bool
held_marks zero transactions = unmarked
held_marks (suc h) transactions = with_held (held_marks h transactions) (transaction_at transactions (handle h))
