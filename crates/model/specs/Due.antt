-- The record that the table asks of a page, from the parts that say what the page is used for.
use Rattle.std.specs.Prelude.{ℕ, Bool, cond, List, Option, None, Some}
use Rattle.model.specs.declared.Deal.{Deal}
use Rattle.isa.specs.Tests.{◌or◌}
use Rattle.model.specs.declared.PageId.{PageId}
use Rattle.model.specs.declared.Handle.{Handle}
use Rattle.model.specs.declared.VmId.{VmId}
use Rattle.model.specs.declared.Mailbox.{Mailbox}
use Rattle.model.specs.declared.PageRecord.{PageRecord}
use Rattle.model.specs.declared.Transaction.{Transaction}
use Rattle.model.specs.Constants.{HANDLES}
use Rattle.model.specs.Tests.{some, first}
use Rattle.model.specs.State.{vm, handle, same_page, mailbox_at, transaction_at, page_at, count_of}
use Rattle.model.specs.Row.{mailbox_row, free_row, row}

-- p is one of these two mailbox pages
unfoldable pub keeps : Mailbox → PageId → Bool
keeps box p = same_page box.tx p or same_page box.rx p

-- p is a mailbox page of one of the n guests, and whose
unfoldable pub is_mailbox : ℕ → List Mailbox → PageId → Bool
is_mailbox n boxes p = some n (λ g. keeps (mailbox_at boxes (vm g)) p)

unfoldable pub keeper : ℕ → List Mailbox → PageId → VmId
keeper n boxes p = vm (first n (λ g. keeps (mailbox_at boxes (vm g)) p))

-- p is one of the transaction's pages; a free one has none
unfoldable pub holds : Transaction → PageId → Bool
holds t p = some (count_of t) (λ i. same_page (page_at t i) p)

-- the handle of p's transaction, or 16, behind the last one, if it is in none
unfoldable pub holder : List Transaction → PageId → Handle
holder transactions p = handle (first HANDLES (λ h. holds (transaction_at transactions (handle h)) p))

-- the row of the transaction, or of the page's owner where there is none
unfoldable pub due_in : Option Deal → Option VmId → PageRecord
due_in None owner = free_row owner
due_in (Some d) owner = row d

unfoldable pub due : ℕ → List Mailbox → List Transaction → Option VmId → PageId → PageRecord
due n boxes transactions owner p =
    cond
    (is_mailbox n boxes p)
    (mailbox_row (keeper n boxes p))
    (due_in (transaction_at transactions (holder transactions p)).deal owner)
