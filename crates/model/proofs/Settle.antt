-- The one law about a handle's place that is settled anew: it gets another transaction, the pages get the record that is due
-- to them then, and the machine stays sound. A record left as it was, a page slot not cleared, a mark on a donation: each
-- leaves a condition of the law without a proof.
use Rattle.std.specs.Prelude.{Option, None, Some}
use Prim.Native.Nat.{ℕ, suc, ◌≤◌, ◌<◌}
use mathlib.Core.Path.{◌≡◌, refl, sym, ap, ◌∙◌}
use mathlib.Core.Bool.{Bool, true, false}
use mathlib.Core.List.{List}
use native.Mathlib.Decide.{ℕ_discrete}
use native.Mathlib.Omega.{arith}
use lib.ListN.{length, set, length-set}
use Rattle.model.specs.declared.VmId.{VmId}
use Rattle.model.specs.declared.PageId.{PageId}
use Rattle.model.specs.declared.Handle.{Handle}
use Rattle.model.specs.declared.PageRecord.{PageRecord}
use Rattle.model.specs.declared.Deal.{Deal}
use Rattle.model.specs.declared.Transaction.{Transaction}
use Rattle.model.specs.declared.Machine.{Machine}
use Rattle.model.specs.Constants.{HANDLES, PLACES}
use Rattle.model.specs.Tests.{some, first}
use Rattle.model.specs.State.{page, handle, record_at, transaction_at, page_at, count_in, count_of}
use Rattle.model.specs.Row.{donates}
use Rattle.model.specs.Due.{is_mailbox, holds, holder, due_in, due}
use Rattle.model.specs.Sound.{OwnersBelow, NoPageTwice, RecordsDue, PagesBlank, Sound}
use Rattle.model.specs.Shaped.{Shaped}
use Rattle.model.specs.Deeds.{recorded, settled}
use Rattle.isa.proofs.Tests.{not_both, cannot_pass}
use Rattle.model.proofs.Tests.{first_passes, length_set_each, set_each_other, set_each_same}
use Rattle.model.proofs.State.{transaction_same, transaction_other}
use Rattle.model.proofs.Due.{held_at, at_held, due_held, due_free}

-- Transactions.

-- what is asked of a transaction by itself
pub record ProperDeal (n : ℕ) (d : Deal) : Type 0 where
  pub count_in_range : (1 ≤ d.count) × (d.count ≤ PLACES)
  pub parties_differ : d.sender ≡ d.receiver → ⊥
  pub parties_below : (d.sender.0 < n) × (d.receiver.0 < n)
  pub no_donation_retrieved : donates d.kind ≡ true → d.retrieved ≡ false

pub record Proper (m : Machine) (u : Transaction) : Type 0 where
  pub eight_places : length u.pages ≡ PLACES
  pub deal : (d : Deal) → u.deal ≡ Some d → ProperDeal m.n d
  pub ascend : (i : ℕ) → suc i < count_of u → (page_at u i).0 < (page_at u (suc i)).0
  pub below : (i : ℕ) → i < count_of u → (page_at u i).0 < m.m
  pub no_mailbox : (i : ℕ) → i < count_of u → is_mailbox m.n m.mailboxes (page_at u i) ≡ false
  pub blank : (i : ℕ) → i < PLACES → count_of u ≤ i → page_at u i ≡ page 0

-- each of a sound machine's is
pub proper_at : (m : Machine) → Shaped m → Sound m → (k : ℕ) → k < HANDLES → Proper m (transaction_at m.transactions (handle k))
proper_at m shaped sound k b =
    record {
      eight_places = shaped.eight_places k b;
      deal = λ d live.
          record {
            count_in_range = sound.page_counts_in_range k d b live;
            parties_differ = sound.parties_differ k d b live;
            parties_below = sound.parties_below k d b live;
            no_donation_retrieved = sound.no_donation_retrieved k d b live;
          };
      ascend = λ i. sound.pages_ascend k i b;
      below = λ i. sound.pages_below k i b;
      no_mailbox = λ i. sound.pages_no_mailbox k i b;
      blank = λ i. sound.places_blank k i b;
    }

-- a free one holds no page
pub free_holds_none : (u : Transaction) (p : PageId) → u.deal ≡ None → holds u p ≡ false
unfolding holds count_of count_in some
free_holds_none u p free = rw free

-- so one that holds a page is live
pub holding_is_live : (u : Transaction) (p : PageId) → holds u p ≡ true → (d : Deal) × (u.deal ≡ Some d)
holding_is_live u p e = go u.deal refl
  where
    go : (l : Option Deal) → u.deal ≡ l → (d : Deal) × (u.deal ≡ Some d)
    go None q = absurd (not_both e (free_holds_none u p q))
    go (Some d) q = (d, q)

-- Records after those of t's pages were set.

-- none is lost; a page of t has r, another what it had
length_recorded : (records : List PageRecord) (t : Transaction) (r : PageRecord) → length (recorded records t r) ≡ length records
unfolding recorded
length_recorded records t r = length_set_each (count_of t) _ _ records

pub recorded_same : (records : List PageRecord) (t : Transaction) (r : PageRecord) (p : PageId)
    → holds t p ≡ true → p.0 < length records → record_at (recorded records t r) p ≡ r
unfolding recorded record_at
recorded_same records t r p e fits =
    let at = held_at t p e in
    set_each_same _ _ r records p.0 _ at.0 at.1 (ap (λ (q : PageId). q.0) at.2) fits

recorded_other : (records : List PageRecord) (t : Transaction) (r : PageRecord) (p : PageId)
    → holds t p ≡ false → record_at (recorded records t r) p ≡ record_at records p
unfolding recorded record_at
recorded_other records t r p e =
    set_each_other (count_of t) (λ i. (page_at t i).0) _ records p.0 _ (λ i b q. not_both (rw (ap page q) at (at_held t i b)) e)

-- The law: the place of h gets the transaction `new`, and the pages of t the record r.

-- what that asks
pub record Settles (m : Machine) (h : Handle) (new t : Transaction) (r : PageRecord) : Type 0 where
  pub is_handle : h.0 < HANDLES
  pub proper_new : Proper m new
  pub proper_pages : Proper m t
  -- no other place holds a page of t
  pub held_here :
      (k : ℕ) (p : PageId) → k < HANDLES → holds (transaction_at m.transactions (handle k)) p ≡ true
      → holds t p ≡ true → k ≡ h.0
  -- t has all the pages that the place held, and the place holds all of t's, unless it is free now
  pub all_old : (p : PageId) → holds (transaction_at m.transactions h) p ≡ true → holds t p ≡ true
  pub all_new : (d : Deal) → new.deal ≡ Some d → (p : PageId) → holds new p ≡ holds t p
  pub is_due : r ≡ due_in new.deal r.owner
  pub is_owned : (g : VmId) × (r.owner ≡ Some g) × (g.0 < m.n)

module _ (m : Machine) (shaped : Shaped m) (sound : Sound m) (h : Handle) (new t : Transaction) (r : PageRecord)
    (s : Settles m h new t r) where
  abbrev placed : List Transaction
  placed = set m.transactions h.0 new

  abbrev filed : List PageRecord
  filed = recorded m.records t r

  -- Places: each is as it was, or h's.

  at_handle : transaction_at placed h ≡ new
  at_handle = transaction_same m.transactions h new (omega (arith, s.is_handle, shaped.sixteen_transactions))

  elsewhere : (k : Handle) → (k.0 ≡ h.0 → ⊥) → transaction_at placed k ≡ transaction_at m.transactions k
  elsewhere k other = transaction_other m.transactions h k new other

  proper_placed : (k : ℕ) → k < HANDLES → Proper m (transaction_at placed (handle k))
  proper_placed k b =
      elim (ℕ_discrete k h.0) [
        | yes q ↦ rw (q, at_handle) s.proper_new
        | no q ↦ rw (elsewhere (handle k) q) (proper_at m shaped sound k b)
      ]

  -- what the place holds now, t has
  new_in_pages : (p : PageId) → holds new p ≡ true → holds t p ≡ true
  new_in_pages p e = let live = holding_is_live new p e in sym (s.all_new live.0 live.1 p) ∙ e

  -- the place that holds a page of t is h's
  settled_here : (k : ℕ) (p : PageId) → k < HANDLES → holds (transaction_at placed (handle k)) p ≡ true
      → holds t p ≡ true → k ≡ h.0
  settled_here k p b held e =
      elim (ℕ_discrete k h.0) [ yes q ↦ q | no q ↦ s.held_here k p b (rw (elsewhere (handle k) q) at held) e ]

  -- A page that is not of t: who holds it and what is due to it stay.

  module _ (p : PageId) (other : holds t p ≡ false) where
    not_in_new : holds new p ≡ false
    not_in_new = cannot_pass (λ e. not_both (new_in_pages p e) other)

    not_in_old : holds (transaction_at m.transactions h) p ≡ false
    not_in_old = cannot_pass (λ e. not_both (s.all_old p e) other)

    held_stays : (k : ℕ) → holds (transaction_at placed (handle k)) p ≡ holds (transaction_at m.transactions (handle k)) p
    held_stays k =
        elim (ℕ_discrete k h.0) [
          | yes q ↦ rw (q, at_handle) (not_in_new ∙ sym not_in_old)
          | no q ↦ rw (elsewhere (handle k) q)
        ]

    holder_stays : holder placed p ≡ holder m.transactions p
    unfolding holder
    holder_stays = λ i. handle (first HANDLES (λ k. held_stays k i))

    holder_elsewhere : (holder m.transactions p).0 ≡ h.0 → ⊥
    unfolding holder
    holder_elsewhere q =
        let passes_at = first_passes HANDLES (λ k. holds (transaction_at m.transactions (handle k)) p) in
        let held = passes_at (omega (arith, q, s.is_handle)) in
        not_both (rw q at held) not_in_old

    due_stays : (owner : Option VmId) → due m.n m.mailboxes placed owner p ≡ due m.n m.mailboxes m.transactions owner p
    unfolding due
    due_stays owner = rw (holder_stays, elsewhere (holder m.transactions p) holder_elsewhere)

  -- With both kinds of page: none is in two places.

  once_placed : NoPageTwice placed
  once_placed j k p bj bk ej ek = go (holds t p) refl
    where
      go : (b : Bool) → holds t p ≡ b → j ≡ k
      go true q = settled_here j p bj ej q ∙ sym (settled_here k p bk ek q)
      go false q = sound.no_page_twice j k p bj bk (rw (held_stays p q j) at ej) (rw (held_stays p q k) at ek)

  -- A page of t: its record is r, and that is due to it.

  module _ (p : PageId) (e : holds t p ≡ true) where
    settled_below : p.0 < m.m
    settled_below = let at = held_at t p e in rw (← at.2) (s.proper_pages.below at.0 at.1)

    settled_no_mailbox : is_mailbox m.n m.mailboxes p ≡ false
    settled_no_mailbox = let at = held_at t p e in rw (← at.2) (s.proper_pages.no_mailbox at.0 at.1)

    settled_record : record_at filed p ≡ r
    settled_record =
        let below : p.0 < m.m = settled_below in
        recorded_same m.records t r p e (omega (arith, sound.counts_in_range, shaped.sixty_four_records))

    settled_due : due m.n m.mailboxes placed r.owner p ≡ r
    unfolding due_in
    settled_due = go new.deal refl
      where
        go : (l : Option Deal) → new.deal ≡ l → due m.n m.mailboxes placed r.owner p ≡ r
        go (Some d) q =
            due_held m.n m.mailboxes placed r.owner p h d once_placed s.is_handle
            (rw at_handle q)
            (rw (at_handle, s.all_new d q p) e)
            settled_no_mailbox
            ∙ sym (rw q at s.is_due)
        go None q =
            due_free m.n m.mailboxes placed r.owner p
            (length-set m.transactions h.0 new ∙ shaped.sixteen_transactions)
            (λ k b. cannot_pass (λ x. not_both (rw (settled_here k p b x e, at_handle) at x) (free_holds_none new p q)))
            settled_no_mailbox
            ∙ sym (rw q at s.is_due)

  -- The clauses about records.

  records_due_filed : RecordsDue m.n m.m m.mailboxes placed filed
  records_due_filed p b = go (holds t (page p)) refl
    where
      go : (x : Bool) → holds t (page p) ≡ x
          → record_at filed (page p) ≡ due m.n m.mailboxes placed (record_at filed (page p)).owner (page p)
      go true q = rw (settled_record (page p) q) (sym (settled_due (page p) q))
      go false q = rw (recorded_other m.records t r (page p) q, due_stays (page p) q) (sound.records_due p b)

  owners_below_filed : OwnersBelow m.n m.m filed
  owners_below_filed p g b e = go (holds t (page p)) refl
    where
      go : (x : Bool) → holds t (page p) ≡ x → g.0 < m.n
      go true q =
          let now : r.owner ≡ Some g = rw (settled_record (page p) q) at e in
          let same : s.is_owned.0 ≡ g = cc s.is_owned.1 in
          rw (← same) s.is_owned.2
      go false q = sound.owners_below p g b (rw (recorded_other m.records t r (page p) q) at e)

  pages_blank_filed : PagesBlank m.m filed
  pages_blank_filed p b c =
      recorded_other m.records t r (page p) (cannot_pass (λ e. omega (arith, settled_below (page p) e)))
      ∙ sound.pages_blank p b c

  settled_shaped : Shaped (settled m h new t r)
  unfolding settled
  settled_shaped =
      record {
        eight_files = shaped.eight_files;
        eight_registers = shaped.eight_registers;
        eight_mailboxes = shaped.eight_mailboxes;
        eight_inboxes = shaped.eight_inboxes;
        sixty_four_records = length_recorded m.records t r ∙ shaped.sixty_four_records;
        sixteen_transactions = length-set m.transactions h.0 new ∙ shaped.sixteen_transactions;
        eight_places = λ k b. (proper_placed k b).eight_places;
      }

  settled_sound : Sound (settled m h new t r)
  unfolding settled
  settled_sound =
      record {
        counts_in_range = sound.counts_in_range;
        page_counts_in_range = λ k d b live. ((proper_placed k b).deal d live).count_in_range;
        lengths_in_range = sound.lengths_in_range;
        mailboxes_differ = sound.mailboxes_differ;
        mailboxes_below = sound.mailboxes_below;
        current_below = sound.current_below;
        owners_below = owners_below_filed;
        senders_below = sound.senders_below;
        no_own_sender = sound.no_own_sender;
        parties_differ = λ k d b live. ((proper_placed k b).deal d live).parties_differ;
        parties_below = λ k d b live. ((proper_placed k b).deal d live).parties_below;
        pages_ascend = λ k i b. (proper_placed k b).ascend i;
        pages_below = λ k i b. (proper_placed k b).below i;
        pages_no_mailbox = λ k i b. (proper_placed k b).no_mailbox i;
        no_donation_retrieved = λ k d b live. ((proper_placed k b).deal d live).no_donation_retrieved;
        no_page_twice = once_placed;
        records_due = records_due_filed;
        guests_blank = sound.guests_blank;
        pages_blank = pages_blank_filed;
        places_blank = λ k i b. (proper_placed k b).blank i;
      }

  pub settled_keeps : Shaped (settled m h new t r) × Sound (settled m h new t r)
  settled_keeps = (settled_shaped, settled_sound)
