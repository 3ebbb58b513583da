-- What the functions ask of the machine, from the clauses that are tested before they are called.
use Prim.Native.Nat.{ℕ, ◌≤◌, ◌<◌}
use mathlib.Core.Path.{◌≡◌, refl}
use mathlib.Core.Bool.{true}
use mathlib.Core.List.{List}
use native.Mathlib.Omega.{arith}
use lib.Dec.{ltb}
use Rattle.model.specs.declared.Mailbox.{Mailbox}
use Rattle.model.specs.declared.PageRecord.{PageRecord}
use Rattle.model.specs.declared.Transaction.{Transaction}
use Rattle.model.specs.Constants.{GUESTS, PAGES, HANDLES}
use Rattle.model.specs.State.{vm, page, handle, mailbox_at, record_at, transaction_at, count_of}
use Rattle.model.specs.Sound.{if_owned, each_deal, each_page, page_counts_in_range, mailboxes_below, MailboxesBelow, owners_below, OwnersBelow, parties_below, PartiesBelow, pages_below, PagesBelow}
use Rattle.model.proofs.Links.{Link, ltb_link, ◌both◌, every_link, every_of_link, if_live_link, if_owned_link}
use Rattle.parts.specs.Reached.{Reached}
use Rattle.sound.specs.Rows.{Held}
use Rattle.parts.proofs.Held.{held_reached}
use Rattle.sound.proofs.Each.{deal_few, transaction_listed}
use lib.ListN.{length, take, get_or}
use lib.Seq.{get_or-take}
use Rattle.std.proofs.lemmas.List.{get_or_read_under, length-take}
use Rattle.model.specs.declared.PageId.{PageId}

-- The clauses as facts.

mailboxes_link : (n m : ℕ) (boxes : List Mailbox) → Link (mailboxes_below n m boxes) (MailboxesBelow n m boxes)
unfolding mailboxes_below
mailboxes_link n m boxes = every_link (λ g. ltb_link both ltb_link)

owners_link : (n m : ℕ) (records : List PageRecord) → Link (owners_below n m records) (OwnersBelow n m records)
unfolding owners_below
owners_link n m records = every_of_link (λ p. if_owned_link (λ g. ltb_link))

parties_link : (n : ℕ) (transactions : List Transaction) → Link (parties_below n transactions) (PartiesBelow n transactions)
unfolding parties_below each_deal
parties_link n transactions = every_of_link (λ h. if_live_link (λ d. ltb_link both ltb_link))

pages_link : (m : ℕ) (transactions : List Transaction) → Link (pages_below m transactions) (PagesBelow m transactions)
unfolding pages_below each_page
pages_link m transactions = every_of_link (λ h. every_link (λ i. ltb_link))

-- What is asked, of a guest, of a page, of a transaction.

pub owner_below : (n m : ℕ) (records : List PageRecord) → owners_below n m records ≡ true → n ≤ GUESTS
    → (p : ℕ) → p < m → if_owned (record_at records (page p)).owner (λ g. ltb g.0 GUESTS) ≡ true
owner_below n m records e few p b =
    (if_owned_link (λ g. ltb_link {a = g.0} {b = GUESTS})).passes (λ g q. omega (arith, (owners_link n m records).holds e p g b q))

pub mailbox_below : (n m : ℕ) (boxes : List Mailbox) → mailboxes_below n m boxes ≡ true → MailboxesBelow n m boxes
mailbox_below n m boxes = (mailboxes_link n m boxes).holds

pub page_below : (m : ℕ) (transactions : List Transaction) → pages_below m transactions ≡ true → PagesBelow m transactions
page_below m transactions = (pages_link m transactions).holds

pub mailboxes_fit : (n m : ℕ) (boxes : List Mailbox) → mailboxes_below n m boxes ≡ true → m ≤ PAGES
    → mailboxes_below n PAGES boxes ≡ true
mailboxes_fit n m boxes e few =
    (mailboxes_link n PAGES boxes).passes (λ g b.
    let at = (mailboxes_link n m boxes).holds e g b in (omega (arith, at.0), omega (arith, at.1)))

pub parties_fit : (n : ℕ) (transactions : List Transaction) → parties_below n transactions ≡ true → n ≤ GUESTS
    → parties_below GUESTS transactions ≡ true
parties_fit n transactions e few =
    (parties_link GUESTS transactions).passes (λ h d b q.
    let at = (parties_link n transactions).holds e h d b q in (omega (arith, at.0), omega (arith, at.1)))

pub pages_fit : (m : ℕ) (transactions : List Transaction) → pages_below m transactions ≡ true → m ≤ PAGES
    → pages_below PAGES transactions ≡ true
pages_fit m transactions e few =
    (pages_link PAGES transactions).passes (λ h i b c. omega (arith, (pages_link m transactions).holds e h i b c))

pub reached : (transactions : List Transaction) → page_counts_in_range transactions ≡ true → pages_below PAGES transactions ≡ true
    → (h : ℕ) → h < HANDLES → Reached (transaction_at transactions (handle h))
reached transactions counts below h b =
    record { few = deal_few transactions counts h b; below = λ i. page_below PAGES transactions below h i b }

pub held : (transactions : List Transaction) → page_counts_in_range transactions ≡ true → parties_below GUESTS transactions ≡ true
    → pages_below PAGES transactions ≡ true → (h : ℕ) → h < HANDLES → Held (transaction_at transactions (handle h))
held transactions counts parties below h b =
    record {
      parties = λ d. (parties_link GUESTS transactions).holds parties h d b;
      reached = reached transactions counts below h b;
    }

pub reached_listed :
    (transactions : List Transaction) → page_counts_in_range transactions ≡ true → pages_below PAGES transactions ≡ true →
    length transactions ≡ HANDLES →
    (t : Transaction) (h : ℕ) → h < length transactions → t ≡ get_or transactions h t → Reached t
reached_listed transactions counts below sixteen t h b at =
    rw (transaction_listed transactions t h sixteen b at) (reached transactions counts below h (omega arith))

pub held_below :
    (t : Transaction) (held : List PageId) → Reached t → (length held ≡ count_of t) × (held ≡ take (count_of t) t.pages) →
    (p : PageId) (k : ℕ) → k < length held → p ≡ get_or held k p → p.0 < PAGES
held_below t held fits is p k b at =
    rw (get_or_read_under held k (length held) p (page 0) at b refl) (held_reached t k fits is b)

-- A guest whose mailbox the loop over the first n comes to: it is below n, and has the mailbox; so its pages can be reached.

pub guest_taken : (n : ℕ) (boxes : List Mailbox) (g : ℕ) → g < length (take n boxes) → g < n
guest_taken n boxes g b = omega (arith, length-take n boxes)

pub box_taken :
    (n : ℕ) (boxes : List Mailbox) (g : ℕ) → g < length (take n boxes) → mailbox_at (take n boxes) (vm g) ≡ mailbox_at boxes (vm g)
unfolding mailbox_at
box_taken n boxes g b = get_or-take n boxes g _ (guest_taken n boxes g b)

pub box_reached :
    (n : ℕ) (boxes : List Mailbox) → mailboxes_below n PAGES boxes ≡ true → (g : ℕ) → g < length (take n boxes) →
    ((mailbox_at (take n boxes) (vm g)).tx.0 < PAGES) × ((mailbox_at (take n boxes) (vm g)).rx.0 < PAGES)
box_reached n boxes below g b = rw (box_taken n boxes g b) (mailbox_below n PAGES boxes below g (guest_taken n boxes g b))
