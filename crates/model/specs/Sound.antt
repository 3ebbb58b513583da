-- Soundness, clause by clause: beside each clause as a computed test, in small letters, stands the same clause as a
-- plain fact. Each takes only the parts of the machine that it reads. `proofs/Sound.antt` proves each from the other.
use Rattle.model.specs.State.{message, vm, page, same_vm, same_page, registers_at, register, mailbox_at, inbox_at, is_empty, record_at, page_at, count_of, transaction_at, handle}
use Rattle.std.specs.Prelude.{ℕ, suc, ◌*◌, ◌≤◌, ◌<◌, ◌≡◌, Bool, true, false, not, List, ltb, leb, eqb, Option, None, Some}
use Rattle.model.specs.declared.Message.{Message}
use Rattle.isa.specs.Tests.{◌and◌, ◌or◌}
use Rattle.model.specs.declared.VmId.{VmId}
use Rattle.model.specs.declared.PageId.{PageId}
use Rattle.model.specs.declared.Registers.{Registers}
use Rattle.model.specs.declared.Mailbox.{Mailbox}
use Rattle.model.specs.declared.PageRecord.{PageRecord}
use Rattle.model.specs.declared.Deal.{Deal}
use Rattle.model.specs.declared.Transaction.{Transaction}
use Rattle.model.specs.declared.Machine.{Machine}
use Rattle.model.specs.Constants.{PAGE, GUESTS, PAGES, HANDLES, PLACES}
use Rattle.model.specs.Tests.{every, ascending}
use Rattle.model.specs.Row.{donates, free_row, same_record}
use Rattle.model.specs.Due.{keeps, is_mailbox, holds, due}

-- Every live transaction, every page of one, every waiting message of one of n guests, every owned page of m.

unfoldable pub if_live : Option Deal → (Deal → Bool) → Bool
if_live None test = true
if_live (Some d) test = test d

unfoldable pub each_deal : List Transaction → (Deal → Bool) → Bool
each_deal transactions test = every HANDLES (λ h. if_live (transaction_at transactions (handle h)).deal test)

abbrev pub EachDeal : List Transaction → (Deal → Type 0) → Type 0
EachDeal transactions Fact = (h : ℕ) (d : Deal) → h < HANDLES → (transaction_at transactions (handle h)).deal ≡ Some d → Fact d

unfoldable pub each_page : List Transaction → (PageId → Bool) → Bool
each_page transactions test =
    every HANDLES (λ h. every (count_of (transaction_at transactions (handle h))) (λ i. test (page_at (transaction_at transactions (handle h)) i)))

abbrev pub EachPage : List Transaction → (PageId → Type 0) → Type 0
EachPage transactions Fact =
    (h i : ℕ) → h < HANDLES → i < count_of (transaction_at transactions (handle h)) → Fact (page_at (transaction_at transactions (handle h)) i)

unfoldable pub if_full : Option Message → (ℕ → VmId → Bool) → Bool
if_full None test = true
if_full (Some message) test = test message.length message.sender

unfoldable pub each_message : ℕ → List (Option Message) → (VmId → ℕ → VmId → Bool) → Bool
each_message n inboxes test = every n (λ g. if_full (inbox_at inboxes (vm g)) (test (vm g)))

abbrev pub EachMessage : ℕ → List (Option Message) → (VmId → ℕ → VmId → Type 0) → Type 0
EachMessage n inboxes Fact =
    (g length : ℕ) (sender : VmId) → g < n → inbox_at inboxes (vm g) ≡ Some (message length sender) → Fact (vm g) length sender

unfoldable pub if_owned : Option VmId → (VmId → Bool) → Bool
if_owned None test = true
if_owned (Some g) test = test g

-- The four counts: guests, pages, the pages of a transaction, the words of a message.

unfoldable pub counts_in_range : ℕ → ℕ → Bool
counts_in_range n m = leb 2 n and leb n GUESTS and leb (2 * n) m and leb m PAGES

pub record CountsInRange (n m : ℕ) : Type 0 where
  pub two_guests : 2 ≤ n
  pub eight_guests : n ≤ GUESTS
  pub room_for_mailboxes : 2 * n ≤ m
  pub sixty_four_pages : m ≤ PAGES

unfoldable pub page_counts_in_range : List Transaction → Bool
page_counts_in_range transactions = each_deal transactions (λ d. leb 1 d.count and leb d.count PLACES)

abbrev pub PageCountsInRange : List Transaction → Type 0
PageCountsInRange transactions = EachDeal transactions (λ d. (1 ≤ d.count) × (d.count ≤ PLACES))

unfoldable pub lengths_in_range : ℕ → List (Option Message) → Bool
lengths_in_range n inboxes = each_message n inboxes (λ g length sender. leb 1 length and leb length PAGE)

abbrev pub LengthsInRange : ℕ → List (Option Message) → Type 0
LengthsInRange n inboxes = EachMessage n inboxes (λ g length sender. (1 ≤ length) × (length ≤ PAGE))

-- The mailbox pages differ, a guest's two and those of different guests, and are below m.

unfoldable pub apart : Mailbox → Mailbox → Bool
apart a b = not (keeps b a.tx) and not (keeps b a.rx)

unfoldable pub mailboxes_differ : ℕ → List Mailbox → Bool
mailboxes_differ n boxes =
    every n (λ g.
    not (same_page (mailbox_at boxes (vm g)).tx (mailbox_at boxes (vm g)).rx)
    and every g (λ k. apart (mailbox_at boxes (vm g)) (mailbox_at boxes (vm k))))

pub record MailboxesDiffer (n : ℕ) (boxes : List Mailbox) : Type 0 where
  pub tx_is_not_rx : (g : ℕ) → g < n → (mailbox_at boxes (vm g)).tx ≡ (mailbox_at boxes (vm g)).rx → ⊥
  pub one_keeper : (g k : ℕ) (p : PageId) → g < n → k < n → keeps (mailbox_at boxes (vm g)) p ≡ true → keeps (mailbox_at boxes (vm k)) p ≡ true → g ≡ k

unfoldable pub mailboxes_below : ℕ → ℕ → List Mailbox → Bool
mailboxes_below n m boxes =
    every n (λ g. ltb (mailbox_at boxes (vm g)).tx.0 m and ltb (mailbox_at boxes (vm g)).rx.0 m)

abbrev pub MailboxesBelow : ℕ → ℕ → List Mailbox → Type 0
MailboxesBelow n m boxes = (g : ℕ) → g < n → ((mailbox_at boxes (vm g)).tx.0 < m) × ((mailbox_at boxes (vm g)).rx.0 < m)

-- Guest numbers, but for those of transactions: whoever is current, owns a page or wrote a message is a guest, and nobody
-- writes to itself.

unfoldable pub owners_below : ℕ → ℕ → List PageRecord → Bool
owners_below n m records = every m (λ p. if_owned (record_at records (page p)).owner (λ g. ltb g.0 n))

abbrev pub OwnersBelow : ℕ → ℕ → List PageRecord → Type 0
OwnersBelow n m records = (p : ℕ) (g : VmId) → p < m → (record_at records (page p)).owner ≡ Some g → g.0 < n

unfoldable pub senders_below : ℕ → List (Option Message) → Bool
senders_below n inboxes = each_message n inboxes (λ g length sender. ltb sender.0 n)

abbrev pub SendersBelow : ℕ → List (Option Message) → Type 0
SendersBelow n inboxes = EachMessage n inboxes (λ g length sender. sender.0 < n)

unfoldable pub no_own_sender : ℕ → List (Option Message) → Bool
no_own_sender n inboxes = each_message n inboxes (λ g length sender. not (same_vm sender g))

abbrev pub NoOwnSender : ℕ → List (Option Message) → Type 0
NoOwnSender n inboxes = EachMessage n inboxes (λ g length sender. sender ≡ g → ⊥)

-- Transactions one by one: two parties, both guests; pages in rising order, each a page of the machine and nobody's
-- mailbox.

unfoldable pub parties_differ : List Transaction → Bool
parties_differ transactions = each_deal transactions (λ d. not (same_vm d.sender d.receiver))

abbrev pub PartiesDiffer : List Transaction → Type 0
PartiesDiffer transactions = EachDeal transactions (λ d. d.sender ≡ d.receiver → ⊥)

unfoldable pub parties_below : ℕ → List Transaction → Bool
parties_below n transactions = each_deal transactions (λ d. ltb d.sender.0 n and ltb d.receiver.0 n)

abbrev pub PartiesBelow : ℕ → List Transaction → Type 0
PartiesBelow n transactions = EachDeal transactions (λ d. (d.sender.0 < n) × (d.receiver.0 < n))

unfoldable pub pages_ascend : List Transaction → Bool
pages_ascend transactions =
    every HANDLES (λ h. ascending (count_of (transaction_at transactions (handle h))) (λ i. (page_at (transaction_at transactions (handle h)) i).0))

abbrev pub PagesAscend : List Transaction → Type 0
PagesAscend transactions =
    (h i : ℕ) → h < HANDLES → suc i < count_of (transaction_at transactions (handle h))
    → (page_at (transaction_at transactions (handle h)) i).0 < (page_at (transaction_at transactions (handle h)) (suc i)).0

unfoldable pub pages_below : ℕ → List Transaction → Bool
pages_below m transactions = each_page transactions (λ p. ltb p.0 m)

abbrev pub PagesBelow : ℕ → List Transaction → Type 0
PagesBelow m transactions = EachPage transactions (λ p. p.0 < m)

unfoldable pub pages_no_mailbox : ℕ → List Mailbox → List Transaction → Bool
pages_no_mailbox n boxes transactions = each_page transactions (λ p. not (is_mailbox n boxes p))

abbrev pub PagesNoMailbox : ℕ → List Mailbox → List Transaction → Type 0
PagesNoMailbox n boxes transactions = EachPage transactions (λ p. is_mailbox n boxes p ≡ false)

-- Transactions by kind, and against each other: a donation is gone once it is retrieved; a page is in one at most.

unfoldable pub no_donation_retrieved : List Transaction → Bool
no_donation_retrieved transactions = each_deal transactions (λ d. not (donates d.kind and d.retrieved))

abbrev pub NoDonationRetrieved : List Transaction → Type 0
NoDonationRetrieved transactions = EachDeal transactions (λ d. donates d.kind ≡ true → d.retrieved ≡ false)

unfoldable pub no_page_twice : List Transaction → Bool
no_page_twice transactions =
    every HANDLES (λ h.
    every h (λ k.
    every (count_of (transaction_at transactions (handle h))) (λ i.
    not (holds (transaction_at transactions (handle k)) (page_at (transaction_at transactions (handle h)) i)))))

abbrev pub NoPageTwice : List Transaction → Type 0
NoPageTwice transactions =
    (h k : ℕ) (p : PageId) → h < HANDLES → k < HANDLES
    → holds (transaction_at transactions (handle h)) p ≡ true
    → holds (transaction_at transactions (handle k)) p ≡ true
    → h ≡ k

-- Each record is the table's.

unfoldable pub records_due : ℕ → ℕ → List Mailbox → List Transaction → List PageRecord → Bool
records_due n m boxes transactions records =
    every m (λ p. same_record (record_at records (page p)) (due n boxes transactions (record_at records (page p)).owner (page p)))

abbrev pub RecordsDue : ℕ → ℕ → List Mailbox → List Transaction → List PageRecord → Type 0
RecordsDue n m boxes transactions records =
    (p : ℕ) → p < m → record_at records (page p) ≡ due n boxes transactions (record_at records (page p)).owner (page p)

-- Unused places are blank: guests from n, pages from m, and the page slots behind a transaction's count, which for a
-- free handle are all of them.

unfoldable pub blank_guest : Registers → Mailbox → Option Message → Bool
blank_guest file box inbox =
    every 8 (λ i. eqb (register file i) 0)
    and eqb file.pc 0
    and not file.equal
    and same_page box.tx (page 0)
    and same_page box.rx (page 0)
    and is_empty inbox

pub record BlankGuest (file : Registers) (box : Mailbox) (inbox : Option Message) : Type 0 where
  pub zero_registers : (i : ℕ) → i < 8 → register file i ≡ 0
  pub zero_pc : file.pc ≡ 0
  pub clear_flag : file.equal ≡ false
  pub no_tx : box.tx ≡ page 0
  pub no_rx : box.rx ≡ page 0
  pub no_message : inbox ≡ None

unfoldable pub guests_blank : ℕ → List Registers → List Mailbox → List (Option Message) → Bool
guests_blank n files boxes inboxes =
    every GUESTS (λ g. ltb g n or blank_guest (registers_at files (vm g)) (mailbox_at boxes (vm g)) (inbox_at inboxes (vm g)))

abbrev pub GuestsBlank : ℕ → List Registers → List Mailbox → List (Option Message) → Type 0
GuestsBlank n files boxes inboxes =
    (g : ℕ) → g < GUESTS → n ≤ g → BlankGuest (registers_at files (vm g)) (mailbox_at boxes (vm g)) (inbox_at inboxes (vm g))

unfoldable pub pages_blank : ℕ → List PageRecord → Bool
pages_blank m records = every PAGES (λ p. ltb p m or same_record (record_at records (page p)) (free_row None))

abbrev pub PagesBlank : ℕ → List PageRecord → Type 0
PagesBlank m records = (p : ℕ) → p < PAGES → m ≤ p → record_at records (page p) ≡ free_row None

unfoldable pub places_blank : List Transaction → Bool
places_blank transactions =
    every HANDLES (λ h.
    every PLACES (λ i.
    ltb i (count_of (transaction_at transactions (handle h))) or same_page (page_at (transaction_at transactions (handle h)) i) (page 0)))

abbrev pub PlacesBlank : List Transaction → Type 0
PlacesBlank transactions =
    (h i : ℕ) → h < HANDLES → i < PLACES → count_of (transaction_at transactions (handle h)) ≤ i
    → page_at (transaction_at transactions (handle h)) i ≡ page 0

-- The whole, as a test and as a record of the facts.

unfoldable pub sound : Machine → Bool
sound m =
    counts_in_range m.n m.m
    and page_counts_in_range m.transactions
    and lengths_in_range m.n m.inboxes
    and mailboxes_differ m.n m.mailboxes
    and mailboxes_below m.n m.m m.mailboxes
    and ltb m.current.0 m.n
    and owners_below m.n m.m m.records
    and senders_below m.n m.inboxes
    and no_own_sender m.n m.inboxes
    and parties_differ m.transactions
    and parties_below m.n m.transactions
    and pages_ascend m.transactions
    and pages_below m.m m.transactions
    and pages_no_mailbox m.n m.mailboxes m.transactions
    and no_donation_retrieved m.transactions
    and no_page_twice m.transactions
    and records_due m.n m.m m.mailboxes m.transactions m.records
    and guests_blank m.n m.registers m.mailboxes m.inboxes
    and pages_blank m.m m.records
    and places_blank m.transactions

pub record Sound (m : Machine) : Type 0 where
  pub counts_in_range : CountsInRange m.n m.m
  pub page_counts_in_range : PageCountsInRange m.transactions
  pub lengths_in_range : LengthsInRange m.n m.inboxes
  pub mailboxes_differ : MailboxesDiffer m.n m.mailboxes
  pub mailboxes_below : MailboxesBelow m.n m.m m.mailboxes
  pub current_below : m.current.0 < m.n
  pub owners_below : OwnersBelow m.n m.m m.records
  pub senders_below : SendersBelow m.n m.inboxes
  pub no_own_sender : NoOwnSender m.n m.inboxes
  pub parties_differ : PartiesDiffer m.transactions
  pub parties_below : PartiesBelow m.n m.transactions
  pub pages_ascend : PagesAscend m.transactions
  pub pages_below : PagesBelow m.m m.transactions
  pub pages_no_mailbox : PagesNoMailbox m.n m.mailboxes m.transactions
  pub no_donation_retrieved : NoDonationRetrieved m.transactions
  pub no_page_twice : NoPageTwice m.transactions
  pub records_due : RecordsDue m.n m.m m.mailboxes m.transactions m.records
  pub guests_blank : GuestsBlank m.n m.registers m.mailboxes m.inboxes
  pub pages_blank : PagesBlank m.m m.records
  pub places_blank : PlacesBlank m.transactions
