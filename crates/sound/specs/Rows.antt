-- How the records due are laid out in one pass over the pages, one over the transactions and one over the mailboxes.
use Rattle.std.specs.Prelude.{None, Some, ℕ, zero, suc, ◌≤◌, ◌<◌, ◌≡◌, true, List, set}
use Rattle.model.specs.declared.Mailbox.{Mailbox}
use Rattle.model.specs.declared.PageRecord.{PageRecord}
use Rattle.model.specs.declared.Deal.{Deal}
use Rattle.model.specs.declared.Transaction.{Transaction}
use Rattle.model.specs.Constants.{GUESTS, PAGES}
use Rattle.model.specs.Tests.{set_each}
use Rattle.model.specs.State.{vm, page, handle, mailbox_at, record_at, transaction_at}
use Rattle.model.specs.Row.{mailbox_row, free_row}
use Rattle.model.specs.Due.{due_in}
use Rattle.model.specs.Deeds.{recorded}
use Rattle.model.specs.Sound.{page_counts_in_range, mailboxes_differ, mailboxes_below, owners_below, parties_below, pages_below, pages_no_mailbox, no_page_twice}
use Rattle.parts.specs.Reached.{Reached}

-- each of the first m pages by its owner, as if it were used for nothing
unfoldable pub free_rows : ℕ → List PageRecord → List PageRecord
free_rows m records = set_each m (λ p. p) (λ p. free_row (record_at records (page p)).owner) records

-- a transaction's pages get its row
unfoldable pub with_row : Transaction → List PageRecord → List PageRecord
with_row t rows = recorded rows t (due_in t.deal None)

-- a transaction whose row can be made and its pages reached
pub record Held (t : Transaction) : Type 0 where
  pub parties : (d : Deal) → t.deal ≡ Some d → (d.sender.0 < GUESTS) × (d.receiver.0 < GUESTS)
  pub reached : Reached t

-- the two pages of a mailbox get a row
unfoldable pub box_row : Mailbox → PageRecord → List PageRecord → List PageRecord
box_row box new rows = set (set rows box.tx.0 new) box.rx.0 new

-- for each number below n, in order, what is put over the rows
unfoldable pub laid : ℕ → (ℕ → List PageRecord → List PageRecord) → List PageRecord → List PageRecord
laid zero put rows = rows
laid (suc k) put rows = put k (laid k put rows)

-- the pages of the first n transactions
unfoldable pub held_rows : ℕ → List Transaction → List PageRecord → List PageRecord
held_rows n transactions rows = laid n (λ h. with_row (transaction_at transactions (handle h))) rows

-- the mailbox pages of the first n guests
unfoldable pub box_rows : ℕ → List Mailbox → List PageRecord → List PageRecord
box_rows n boxes rows = laid n (λ g. box_row (mailbox_at boxes (vm g)) (mailbox_row (vm g))) rows

-- what must be known before the records are compared: everything is in range, and no page has two uses
pub record Usable (n m : ℕ) (boxes : List Mailbox) (transactions : List Transaction) (records : List PageRecord) : Type 0 where
  pub eight_guests : n ≤ GUESTS
  pub sixty_four_pages : m ≤ PAGES
  pub page_counts_in_range : page_counts_in_range transactions ≡ true
  pub mailboxes_differ : mailboxes_differ n boxes ≡ true
  pub mailboxes_below : mailboxes_below n m boxes ≡ true
  pub owners_below : owners_below n m records ≡ true
  pub parties_below : parties_below n transactions ≡ true
  pub pages_below : pages_below m transactions ≡ true
  pub pages_no_mailbox : pages_no_mailbox n boxes transactions ≡ true
  pub no_page_twice : no_page_twice transactions ≡ true
