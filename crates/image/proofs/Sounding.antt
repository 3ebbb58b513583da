-- The machine of a good image is sound: each clause from what is known of its draft. Assumes nothing.
use Rattle.model.specs.State.{message, vm, page, handle, register, mailbox_at, inbox_at, record_at, transaction_at, page_at, count_in, count_of}
use Rattle.std.specs.Prelude.{Option, None, Some}
use Rattle.model.specs.declared.Message.{Message}
use Prim.Native.Nat.{ℕ, ◌<◌}
use mathlib.Core.Path.{◌≡◌, refl, sym, ap, ◌∙◌}
use mathlib.Core.Bool.{true, false, false≢true}
use mathlib.Core.List.{List}
use native.Mathlib.Omega.{arith}
use lib.ListN.{length, replicate, get_or-replicate}
use Rattle.isa.proofs.Tests.{not_both, cannot_pass}
use Rattle.model.specs.declared.VmId.{VmId}
use Rattle.model.specs.declared.PageId.{PageId}
use Rattle.model.specs.declared.Mailbox.{Mailbox}
use Rattle.model.specs.declared.PageRecord.{PageRecord}
use Rattle.model.specs.declared.Deal.{Deal}
use Rattle.model.specs.declared.Transaction.{Transaction}
use Rattle.model.specs.declared.Machine.{Machine}
use Rattle.model.specs.Constants.{GUESTS, HANDLES, PLACES}
use Rattle.model.specs.VmSet.{has, only}
use Rattle.model.specs.Row.{mailbox_row, free_row, owned_row}
use Rattle.model.specs.Deeds.{freed}
use Rattle.model.specs.Due.{keeps, is_mailbox, keeper, holds, due}
use Rattle.model.specs.Sound.{OwnersBelow, RecordsDue, GuestsBlank, PlacesBlank, Sound}
use Rattle.model.proofs.Tests.{at_some, some_at, first_is}
use Rattle.model.proofs.Same.{eq_same_vm, same_vm_true}
use Rattle.model.proofs.Members.{has_only}
use Rattle.model.proofs.Due.{held_at, due_mailbox, due_free}
use Rattle.image.proofs.Drafting.{spare_no_mailbox, Use, kept_by, owned_by, spare, Built}

-- No handle is in use, and nothing waits.

module _ (transactions : List Transaction) (free : transactions ≡ replicate HANDLES freed) where
  free_at : (h : ℕ) → h < HANDLES → transaction_at transactions (handle h) ≡ freed
  unfolding transaction_at
  free_at h b = rw free (get_or-replicate HANDLES h freed _ b)

  no_deal : (h : ℕ) (d : Deal) → h < HANDLES → (transaction_at transactions (handle h)).deal ≡ Some d → ⊥
  no_deal h d b live =
      let clash : None ≡ Some d = sym (ap (λ (t : Transaction). t.deal) (free_at h b)) ∙ live in
      false≢true cc

  no_count : (h : ℕ) → h < HANDLES → count_of (transaction_at transactions (handle h)) ≡ 0
  unfolding count_of count_in
  no_count h b = rw (free_at h b)

  no_page : (h i : ℕ) → h < HANDLES → i < count_of (transaction_at transactions (handle h)) → ⊥
  no_page h i b l = omega (arith, no_count h b)

  holds_none : (p : PageId) (h : ℕ) → h < HANDLES → holds (transaction_at transactions (handle h)) p ≡ false
  holds_none p h b = cannot_pass (λ e. omega (arith, no_count h b, (held_at _ p e).1))

  places_blank : PlacesBlank transactions
  unfolding page_at
  places_blank h i b l from = rw (free_at h b) (get_or-replicate PLACES i (page 0) _ l)

module _ (inboxes : List (Option Message)) (empty : inboxes ≡ replicate GUESTS None) where
  empty_at : (g : ℕ) → g < GUESTS → inbox_at inboxes (vm g) ≡ None
  unfolding inbox_at
  empty_at g b = rw empty (get_or-replicate GUESTS g None _ b)

  no_message : (g length : ℕ) (sender : VmId) → g < GUESTS → inbox_at inboxes (vm g) ≡ Some (message length sender) → ⊥
  no_message g length sender b e =
      let clash : None ≡ Some (message length sender) = sym (empty_at g b) ∙ e in
      false≢true cc

-- Rows.

-- a mailbox page's row tells whose it is
same_keeper : (g k : ℕ) → mailbox_row (vm g) ≡ mailbox_row (vm k) → g ≡ k
unfolding mailbox_row
same_keeper g k e =
    let access : only (vm g) ≡ only (vm k) = ap (λ (r : PageRecord). r.access) e in
    let member : has (vm g) (only (vm k)) ≡ true = rw (← access) (has_only (vm g) (vm g) ∙ eq_same_vm refl) in
    ap (λ (v : VmId). v.0) (same_vm_true (vm g) (vm k) (sym (has_only (vm g) (vm k)) ∙ member))

-- and that nobody owns it
mailbox_unowned : (r : PageRecord) (g k : VmId) → r ≡ mailbox_row g → r.owner ≡ Some k → ⊥
unfolding mailbox_row
mailbox_unowned r g k e q =
    let clash : None ≡ Some k = sym (ap (λ (x : PageRecord). x.owner) e) ∙ q in
    false≢true cc

-- an owned page's row and a spare page's are their owner's, and no mailbox page's
record Own (r : PageRecord) : Type 0 where
  owners : r ≡ free_row r.owner
  no_mailbox : (g : VmId) → r ≡ mailbox_row g → ⊥

owned_own : (r : PageRecord) (g : VmId) → r ≡ owned_row g → Own r
unfolding free_row
owned_own r g e =
    rw e (record { owners = refl; no_mailbox = λ k q. mailbox_unowned (owned_row g) k g q refl })

spare_own : (r : PageRecord) → r ≡ free_row None → Own r
unfolding free_row
spare_own r e = rw e (record { owners = refl; no_mailbox = spare_no_mailbox })

-- The clauses that are more than a line.

module _ (m : Machine) (c : Built m) where
  one_keeper : (g k : ℕ) (p : PageId) → g < m.n → k < m.n
      → keeps (mailbox_at m.mailboxes (vm g)) p ≡ true → keeps (mailbox_at m.mailboxes (vm k)) p ≡ true → g ≡ k
  one_keeper g k p b l x y =
      same_keeper g k
      (sym (c.pages.box_row_lem g p.0 (c.all_described g b) x) ∙ c.pages.box_row_lem k p.0 (c.all_described k l) y)

  owners_below : OwnersBelow m.n m.m m.records
  unfolding free_row
  owners_below p g b q = go (c.pages.used p b)
    where
      go : Use m.n c.described m.mailboxes p (record_at m.records (page p)) → g.0 < m.n
      go (kept_by k old keeping) = absurd (mailbox_unowned _ (vm k) g (c.pages.box_row_lem k p old keeping) q)
      go (owned_by k below row) =
          let same : Some k ≡ Some g = sym (ap (λ (x : PageRecord). x.owner) row) ∙ q in
          let guest : k ≡ g = cc in
          rw (← guest) below
      go (spare row) =
          let clash : None ≡ Some g = sym (ap (λ (x : PageRecord). x.owner) row) ∙ q in
          absurd (false≢true cc)

  -- a page whose row is its owner's
  own_due : (p : ℕ) → Own (record_at m.records (page p))
      → record_at m.records (page p)
      ≡ due m.n m.mailboxes m.transactions (record_at m.records (page p)).owner (page p)
  unfolding is_mailbox
  own_due p own =
      own.owners
      ∙ sym
      (due_free m.n m.mailboxes m.transactions _ (page p)
      (ap length c.still.handles_free)
      (holds_none m.transactions c.still.handles_free (page p))
      (cannot_pass (λ e.
      let found = some_at _ _ e in
      own.no_mailbox (vm found.0) (c.pages.box_row_lem found.0 p (c.all_described found.0 found.1) found.2))))

  -- a mailbox page
  kept_due : (p g : ℕ) → g < m.n → keeps (mailbox_at m.mailboxes (vm g)) (page p) ≡ true
      → record_at m.records (page p)
      ≡ due m.n m.mailboxes m.transactions (record_at m.records (page p)).owner (page p)
  unfolding is_mailbox keeper
  kept_due p g b keeping =
      let first-keeper : keeper m.n m.mailboxes (page p) ≡ vm g =
      ap vm (first_is _ _ g b keeping (λ k l. cannot_pass (λ q. omega (arith, one_keeper g k (page p) b (omega arith) keeping q)))) in
      c.pages.box_row_lem g p (c.all_described g b) keeping
      ∙ sym
      (due_mailbox m.n m.mailboxes m.transactions _ (page p) (at_some _ _ g b keeping)
      ∙ ap mailbox_row first-keeper)

  records_due : RecordsDue m.n m.m m.mailboxes m.transactions m.records
  records_due p b = go (c.pages.used p b)
    where
      go : Use m.n c.described m.mailboxes p (record_at m.records (page p))
          → record_at m.records (page p)
          ≡ due m.n m.mailboxes m.transactions (record_at m.records (page p)).owner (page p)
      go (kept_by g old keeping) = kept_due p g (c.guests.described_below g old) keeping
      go (owned_by g below row) = own_due p (owned_own _ g row)
      go (spare row) = own_due p (spare_own _ row)

  guests_blank : GuestsBlank m.n m.registers m.mailboxes m.inboxes
  unfolding register
  guests_blank g b from =
      let missing : has (vm g) c.described ≡ false = cannot_pass (λ e. omega (arith, c.guests.described_below g e)) in
      record {
        zero_registers = λ i l. rw (c.guests.zero_registers g b) (get_or-replicate 8 i 0 0 l);
        zero_pc = c.guests.no_start g b missing;
        clear_flag = c.guests.clear_flag g b;
        no_tx = ap (λ (box : Mailbox). box.tx) (c.guests.no_box g b missing);
        no_rx = ap (λ (box : Mailbox). box.rx) (c.guests.no_box g b missing);
        no_message = empty_at m.inboxes c.still.nothing_waits g b;
      }

-- The whole.

pub built_sound : (m : Machine) → Built m → Sound m
built_sound m c =
    record {
      counts_in_range = c.counts;
      page_counts_in_range = λ h d b live. absurd (no_deal _ free h d b live);
      lengths_in_range = λ g length sender b e. absurd (silent g length sender b e);
      mailboxes_differ =
          record { tx_is_not_rx = λ g b. c.pages.two_pages g (c.all_described g b); one_keeper = one_keeper m c };
      mailboxes_below = λ g b. c.pages.boxes_below g (c.all_described g b);
      current_below = rw c.still.current_is_primary (omega (arith, c.counts.two_guests));
      owners_below = owners_below m c;
      senders_below = λ g length sender b e. absurd (silent g length sender b e);
      no_own_sender = λ g length sender b e. absurd (silent g length sender b e);
      parties_differ = λ h d b live. absurd (no_deal _ free h d b live);
      parties_below = λ h d b live. absurd (no_deal _ free h d b live);
      pages_ascend = λ h i b l. absurd (omega (arith, no_count _ free h b));
      pages_below = λ h i b l. absurd (no_page _ free h i b l);
      pages_no_mailbox = λ h i b l. absurd (no_page _ free h i b l);
      no_donation_retrieved = λ h d b live. absurd (no_deal _ free h d b live);
      no_page_twice = λ h k p b l x y. absurd (not_both x (holds_none _ free p h b));
      records_due = records_due m c;
      guests_blank = guests_blank m c;
      pages_blank = c.pages.spare_behind;
      places_blank = places_blank _ free;
    }
  where
    free : m.transactions ≡ replicate HANDLES freed
    free = c.still.handles_free

    silent : (g length : ℕ) (sender : VmId) → g < m.n → inbox_at m.inboxes (vm g) ≡ Some (message length sender) → ⊥
    silent g length sender b e =
        no_message m.inboxes c.still.nothing_waits g length sender (omega (arith, c.counts.eight_guests)) e
