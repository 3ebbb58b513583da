-- Soundness is kept by what the calls do to pages: each deed is an instance of the law of `Settle.antt`, and so are the
-- sendings.
use Rattle.std.specs.Prelude.{None, Some}
use Prim.Native.Nat.{ℕ, suc, ◌<◌}
use mathlib.Core.Path.{◌≡◌, refl, sym, ap, ◌∙◌}
use mathlib.Core.Bool.{Bool, true, false, not}
use native.Mathlib.Omega.{arith}
use lib.ListN.{replicate, get_or-replicate}
use Rattle.isa.specs.Tests.{◌and◌, ◌or◌}
use Rattle.model.specs.declared.VmId.{VmId}
use Rattle.model.specs.declared.PageId.{PageId}
use Rattle.model.specs.declared.Handle.{Handle}
use Rattle.model.specs.declared.PageRecord.{PageRecord}
use Rattle.model.specs.declared.Kind.{Kind}
use Rattle.model.specs.declared.Deal.{Deal}
use Rattle.model.specs.declared.Transaction.{Transaction}
use Rattle.model.specs.declared.Machine.{Machine}
use Rattle.model.specs.Constants.{HANDLES, PLACES}
use Rattle.model.specs.State.{State, same_vm, page, handle, record_at, transaction_at, page_at, count_in, count_of}
use Rattle.model.specs.VmSet.{has}
use Rattle.model.specs.Row.{shares, donates, mailbox_row, free_row, owned_row, row}
use Rattle.model.specs.Due.{is_mailbox, holds, due_in}
use Rattle.model.specs.Sound.{Sound}
use Rattle.model.specs.Shaped.{Shaped}
use Rattle.model.specs.Deeds.{settled, freed, marked, redealt, retrieved, relinquished, reclaimed}
use Rattle.model.specs.Reply.{passes}
use Rattle.model.specs.Sending.{lowest_free, sending_verdict, sent_page, sent_count, sent_deal, sent_transaction, sent}
use Rattle.isa.proofs.Tests.{not_both, cannot_pass, and_intro, and_false}
use Rattle.model.proofs.Tests.{length_set_each}
use Rattle.model.proofs.Same.{same_vm_true, eq_same_vm}
use Rattle.model.proofs.Members.{has_only}
use Rattle.model.proofs.Table.{row_access, row_exclusive}
use Rattle.model.proofs.Due.{held_at, due_mailbox, page_row}
use Rattle.model.proofs.Sending.{is_free_lem, passed, free_at_lowest, sent_at, sent_blank}
use Rattle.model.proofs.Laws.{sent_pages_ascend}
use Rattle.model.proofs.Settle.{Proper, proper_at, free_holds_none, holding_is_live, Settles, settled_keeps}

-- What a place gets: its own deal with another mark, or nothing.

live_deal : {d e : Deal} → Some d ≡ Some e → d ≡ e
live_deal q = cc

free_not_live : {d : Deal} → None ≡ Some d → ⊥
free_not_live q = let z : ◌≡◌ {A = ℕ} 0 1 = cc in omega arith

module _ (m : Machine) (u : Transaction) (d : Deal) (mark : Bool) (live : u.deal ≡ Some d) where
  -- it has as many pages, the same ones
  same_count : count_of (redealt u (marked d mark)) ≡ count_of u
  unfolding redealt marked count_of count_in
  same_count = rw live

  same_pages : (p : PageId) → holds (redealt u (marked d mark)) p ≡ holds u p
  unfolding holds page_at redealt
  same_pages p = rw same_count

  redealt_proper : Proper m u → (donates d.kind ≡ true → mark ≡ false) → Proper m (redealt u (marked d mark))
  unfolding redealt marked page_at
  redealt_proper proper donation =
      let before = proper.deal d live in
      record {
        eight_places = proper.eight_places;
        deal = λ e q.
            rw (← live_deal q)
            (record {
              count_in_range = before.count_in_range;
              parties_differ = before.parties_differ;
              parties_below = before.parties_below;
              no_donation_retrieved = donation;
            });
        ascend = λ i b. proper.ascend i (rw same_count at b);
        below = λ i b. proper.below i (rw same_count at b);
        no_mailbox = λ i b. proper.no_mailbox i (rw same_count at b);
        blank = λ i b c. proper.blank i b (rw same_count at c);
      }

freed_proper : (m : Machine) → Proper m freed
unfolding count_of count_in page_at
freed_proper m =
    record {
      eight_places = refl;
      deal = λ d q. absurd (free_not_live q);
      ascend = λ i b. absurd (omega arith);
      below = λ i b. absurd (omega arith);
      no_mailbox = λ i b. absurd (omega arith);
      blank = λ i b c. get_or-replicate PLACES i (page 0) (page 0) b;
    }

-- The deeds of the handle calls: the pages are those that the place held.

module _ (m : Machine) (shaped : Shaped m) (sound : Sound m) (h : Handle) (b : h.0 < HANDLES) where
  abbrev old : Transaction
  old = transaction_at m.transactions h

  -- only what the place gets is left to say
  old_settles : (new : Transaction) (r : PageRecord) → Proper m new
      → ((d : Deal) → new.deal ≡ Some d → (p : PageId) → holds new p ≡ holds old p)
      → r ≡ due_in new.deal r.owner → (g : VmId) × (r.owner ≡ Some g) × (g.0 < m.n)
      → Settles m h new old r
  old_settles new r proper all_new is_due is_owned =
      record {
        is_handle = b;
        proper_new = proper;
        proper_pages = proper_at m shaped sound h.0 b;
        held_here = λ k p c e here. sound.no_page_twice k h.0 p c b e here;
        all_old = λ p e. e;
        all_new = all_new;
        is_due = is_due;
        is_owned = is_owned;
      }

  -- the pages of a handle that is freed are their owner's own
  freed_keeps : (r : PageRecord) (g : VmId) → r ≡ free_row (Some g) → g.0 < m.n
      → Shaped (settled m h freed old r) × Sound (settled m h freed old r)
  unfolding due_in free_row
  freed_keeps r g own below =
      settled_keeps m shaped sound h freed old r
      (old_settles freed r (freed_proper m) (λ d q. absurd (free_not_live q)) (rw own) (g, rw own, below))

  marked_keeps : (d : Deal) (mark : Bool) → old.deal ≡ Some d → (donates d.kind ≡ true → mark ≡ false)
      → Shaped (settled m h (redealt old (marked d mark)) old (row (marked d mark)))
      × Sound (settled m h (redealt old (marked d mark)) old (row (marked d mark)))
  unfolding due_in row redealt marked
  marked_keeps d mark live donation =
      settled_keeps m shaped sound h (redealt old (marked d mark)) old (row (marked d mark))
      (old_settles (redealt old (marked d mark)) (row (marked d mark))
      (redealt_proper m old d mark live (proper_at m shaped sound h.0 b) donation)
      (λ e q. same_pages m old d mark live)
      refl
      (d.sender, refl, (sound.parties_below h.0 d b live).0))

pub retrieved_keeps : (m : Machine) → Shaped m → Sound m → (h : Handle) (d : Deal) → h.0 < HANDLES
    → (transaction_at m.transactions h).deal ≡ Some d → Shaped (retrieved m h d) × Sound (retrieved m h d)
unfolding retrieved
retrieved_keeps m shaped sound h d b live = go (donates d.kind) refl
  where
    go : (x : Bool) → donates d.kind ≡ x → Shaped (retrieved m h d) × Sound (retrieved m h d)
    go true q = rw q (freed_keeps m shaped sound h b _ d.receiver refl (sound.parties_below h.0 d b live).1)
    go false q = rw q (marked_keeps m shaped sound h b d true live (λ e. absurd (not_both e q)))

pub relinquished_keeps : (m : Machine) → Shaped m → Sound m → (h : Handle) (d : Deal) → h.0 < HANDLES
    → (transaction_at m.transactions h).deal ≡ Some d → Shaped (relinquished m h d) × Sound (relinquished m h d)
unfolding relinquished
relinquished_keeps m shaped sound h d b live = marked_keeps m shaped sound h b d false live (λ e. refl)

pub reclaimed_keeps : (m : Machine) → Shaped m → Sound m → (h : Handle) (d : Deal) → h.0 < HANDLES
    → (transaction_at m.transactions h).deal ≡ Some d → Shaped (reclaimed m h d) × Sound (reclaimed m h d)
unfolding reclaimed
reclaimed_keeps m shaped sound h d b live =
    freed_keeps m shaped sound h b _ d.sender refl (sound.parties_below h.0 d b live).0

-- The sendings: a page that may be sent is in no transaction, and no mailbox page, since its record is its owner's.

-- access by sharing goes without the mark, and there is no other for the sender
access_or_mark : (s own r : Bool) → ((s and own) or (r and false)) and not s ≡ false
unfolding ◌and◌ ◌or◌
access_or_mark true own r = and_false ((true and own) or (r and false)) false (λ e. refl)
access_or_mark false own true = refl
access_or_mark false own false = refl

-- so whoever sent pages does not have them for itself alone, as an owner has the pages that it may send
sender_not_alone : (d : Deal) → (d.sender ≡ d.receiver → ⊥) → has d.sender (row d).access and (row d).exclusive ≡ false
sender_not_alone d differ =
    let other : same_vm d.sender d.receiver ≡ false = cannot_pass (λ e. differ (same_vm_true _ _ e)) in
    rw (row_access d d.sender, row_exclusive d, other) (access_or_mark (shares d.kind) _ d.retrieved)

owner_alone : (g : VmId) → has g (owned_row g).access and (owned_row g).exclusive ≡ true
unfolding free_row
owner_alone g = and_intro (has_only g g ∙ eq_same_vm refl) refl

-- no transaction's row is an owner's own, and no mailbox's is
row_not_owned : (d : Deal) (g : VmId) → (d.sender ≡ d.receiver → ⊥) → row d ≡ owned_row g → ⊥
unfolding row free_row
row_not_owned d g differ q =
    let owners : Some d.sender ≡ Some g = ap (λ (r : PageRecord). r.owner) q in
    let same : d.sender ≡ g = cc in
    not_both
    (ap (λ (r : PageRecord). has d.sender r.access and r.exclusive) q ∙ rw same (owner_alone g))
    (sender_not_alone d differ)

mailbox_not_owned : (g k : VmId) → mailbox_row g ≡ owned_row k → ⊥
unfolding mailbox_row free_row
mailbox_not_owned g k q =
    let owners : None ≡ Some k = ap (λ (r : PageRecord). r.owner) q in
    let z : ◌≡◌ {A = ℕ} 0 1 = cc in
    omega arith

module _ (kind : Kind) (s : State) (sound : Sound s.machine) (e : sending_verdict kind s ≡ passes) where
  -- a page sent had its owner's own record
  sent_own : (p : PageId) → holds (sent_transaction kind s) p ≡ true
      → record_at s.machine.records p ≡ owned_row s.machine.current
  unfolding count_of count_in sent_transaction sent_deal
  sent_own p held =
      let at = held_at (sent_transaction kind s) p held in
      rw (← at.2, sent_at kind s e at.0 at.1) ((passed kind s e).own at.0 at.1)

  -- which no mailbox page has
  sent_no_mailbox : (i : ℕ) → i < sent_count s → is_mailbox s.machine.n s.machine.mailboxes (sent_page s i) ≡ false
  sent_no_mailbox i b =
      cannot_pass (λ x. mailbox_not_owned _ _
      (sym (sound.records_due (sent_page s i).0 ((passed kind s e).below i b) ∙ due_mailbox _ _ _ _ (sent_page s i) x)
      ∙ (passed kind s e).own i b))

  sent_proper : Proper s.machine (sent_transaction kind s)
  unfolding count_of count_in sent_transaction sent_deal
  sent_proper =
      let known = passed kind s e in
      record {
        eight_places = length_set_each (sent_count s) (λ i. i) (sent_page s) (replicate PLACES (page 0));
        deal = λ d q.
            rw (← live_deal q)
            (record {
              count_in_range = known.count_in_range;
              parties_differ = λ same. known.to_other.1 (sym same);
              parties_below = (sound.current_below, known.to_other.0);
              no_donation_retrieved = λ donation. refl;
            });
        ascend = λ i b. rw (sent_at kind s e i (omega arith), sent_at kind s e (suc i) b) (sent_pages_ascend kind s e i (suc i) (omega arith) b);
        below = λ i b. rw (sent_at kind s e i b) (known.below i b);
        no_mailbox = λ i b. rw (sent_at kind s e i b) (sent_no_mailbox i b);
        blank = sent_blank kind s;
      }

  -- and no page of a transaction
  sent_nowhere : (k : ℕ) (p : PageId) → k < HANDLES → holds (transaction_at s.machine.transactions (handle k)) p ≡ true
      → holds (sent_transaction kind s) p ≡ true → ⊥
  sent_nowhere k p b held here =
      let live = holding_is_live (transaction_at s.machine.transactions (handle k)) p held in
      row_not_owned live.0 s.machine.current
      (sound.parties_differ k live.0 b live.1)
      (sym (page_row s.machine sound (handle k) live.0 p b live.1 held) ∙ sent_own p here)

pub sent_keeps : (kind : Kind) (s : State) → Shaped s.machine → Sound s.machine → sending_verdict kind s ≡ passes
    → Shaped (sent kind s) × Sound (sent kind s)
unfolding sent sent_transaction sent_deal due_in row
sent_keeps kind s shaped sound e =
    let m = s.machine in
    let h = lowest_free m.transactions in
    let t = sent_transaction kind s in
    let below : h.0 < HANDLES = (passed kind s e).is_handle in
    let free : (transaction_at m.transactions h).deal ≡ None = is_free_lem _ (free_at_lowest m.transactions below) in
    settled_keeps m shaped sound h t t (row (sent_deal kind s))
    (record {
      is_handle = below;
      proper_new = sent_proper kind s sound e;
      proper_pages = sent_proper kind s sound e;
      held_here = λ k p b held here. absurd (sent_nowhere kind s sound e k p b held here);
      all_old = λ p held. absurd (not_both held (free_holds_none _ p free));
      all_new = λ d q p. refl;
      is_due = refl;
      is_owned = (m.current, refl, sound.current_below);
    })
