-- The frame law of a transaction, by the deed of the act.
use Rattle.std.specs.Prelude.{None, Some}
use Prim.Native.Nat.{ℕ, ◌<◌}
use mathlib.Core.Path.{◌≡◌, refl, sym, ap, ◌∙◌}
use mathlib.Core.Bool.{Bool, true, false, false≢true}
use mathlib.Core.List.{List, []}
use native.Mathlib.Decide.{ℕ_discrete, dec_lt}
use native.Mathlib.Omega.{arith}
use lib.ListN.{length, set, get_or-eq_default}
use lib.Dec.{eqb}
use borrow.Author.Tests.{eqb-true, eq-eqb}
use Rattle.model.specs.declared.VmId.{VmId}
use Rattle.model.specs.declared.PageId.{PageId}
use Rattle.model.specs.declared.Handle.{Handle}
use Rattle.model.specs.declared.Deal.{Deal}
use Rattle.model.specs.declared.Transaction.{Transaction}
use Rattle.model.specs.State.{State, handle, transaction_at}
use Rattle.model.specs.Row.{donates, sends, receives}
use Rattle.model.specs.Deeds.{settled, marked, redealt, retrieved, relinquished, reclaimed}
use Rattle.model.specs.Sending.{is_free}
use Rattle.model.specs.Act.{Act, after, Event, Quiet, Stored, Sent, Retrieved, Relinquished, Reclaimed, event_of}
use Rattle.model.specs.Frame.{dealt, Marking, sets, clears, stays, Stays, FrameLaw}
use Rattle.isa.proofs.Tests.{not_both, cannot_pass}
use Rattle.model.proofs.State.{transaction_same, transaction_other}
use Rattle.model.proofs.Same.{same_vm_true}
use Rattle.model.proofs.Sending.{is_free_lem}
use Rattle.model.proofs.Deed.{Leaves, Handled, Deed, did_nothing, stored_it, sent_message, sent_pages, retrieved_it, relinquished_it, reclaimed_it, act_deed}

-- the event is a retrieve or a relinquish of h
marks : Event → Handle → Bool
marks Quiet h = false
marks (Stored g x v) h = false
marks (Sent kind i j k ps) h = false
marks (Retrieved g k) h = eqb k.0 h.0
marks (Relinquished g k) h = eqb k.0 h.0
marks (Reclaimed g k) h = false

not_same : {h k : Handle} → (h.0 ≡ k.0 → ⊥) → eqb k.0 h.0 ≡ false
not_same apart = cannot_pass (λ e. apart (sym (eqb-true _ _ e)))

-- what is live has a place
live_inside : (transactions : List Transaction) (h : Handle) (d : Deal) (pages : List PageId)
    → transaction_at transactions h ≡ dealt d pages → h.0 < length transactions
unfolding transaction_at
live_inside transactions h d pages slot =
    elim (dec_lt h.0 (length transactions)) [
      | yes inside ↦ inside
      | no outside ↦
          let free : None ≡ Some d =
          ap (λ (t : Transaction). t.deal) (sym (get_or-eq_default transactions (record { deal = None; pages = [] }) (omega arith)) ∙ slot) in
          absurd (false≢true cc)
    ]

module _ (a : Act) (s : State) (h : Handle)
    (d : Deal) (pages : List PageId) (slot : transaction_at s.machine.transactions h ≡ dealt d pages) where
  -- the slot is as it was, and so is its mark
  untouched : (e : Event) → event_of a s ≡ e → marks e h ≡ false
      → transaction_at (after a s).machine.transactions h ≡ transaction_at s.machine.transactions h → Stays a s h d pages
  unfolding marked marks
  untouched e f quiet same =
      let never : (x : Event) → marks x h ≡ true → event_of a s ≡ x → ⊥ =
      λ x it q. not_both it (ap (λ (y : Event). marks y h) (sym q ∙ f) ∙ quiet) in
      record {
        mark = d.retrieved;
        slot = same ∙ slot;
        marking = stays (never _ (eq-eqb h.0 h.0 refl)) (never _ (eq-eqb h.0 h.0 refl)) refl;
      }

  same_slot : Leaves a s s.machine → transaction_at (after a s).machine.transactions h ≡ transaction_at s.machine.transactions h
  same_slot leaves = ap (λ (t : List Transaction). transaction_at t h) leaves.transactions

  -- the slot of another handle changes
  elsewhere : (e : Event) → event_of a s ≡ e → marks e h ≡ false → (k : Handle) (new : Transaction) → (h.0 ≡ k.0 → ⊥)
      → (after a s).machine.transactions ≡ set s.machine.transactions k.0 new → Stays a s h d pages
  elsewhere e f quiet k new apart left =
      untouched e f quiet
      (ap (λ (t : List Transaction). transaction_at t h) left ∙ transaction_other s.machine.transactions k h new apart)

  -- the slot itself has another mark
  here : (mark : Bool)
      → (after a s).machine.transactions
      ≡ set s.machine.transactions h.0 (redealt (transaction_at s.machine.transactions h) (marked d mark))
      → Marking d.receiver h (event_of a s) d.retrieved mark → Stays a s h d pages
  unfolding redealt
  here mark left marking =
      record {
        mark = mark;
        slot =
            ap (λ (t : List Transaction). transaction_at t h) left
            ∙ transaction_same s.machine.transactions h _ (live_inside s.machine.transactions h d pages slot)
            ∙ ap (λ (t : Transaction). redealt t (marked d mark)) slot;
        marking = marking;
      }

  -- the handle of a sending was free
  not_free : (k : Handle) → is_free (transaction_at s.machine.transactions k).deal ≡ true → h.0 ≡ k.0 → ⊥
  not_free k free same =
      let lives : None ≡ Some d =
      sym (is_free_lem _ free)
      ∙ ap (λ (x : ℕ). (transaction_at s.machine.transactions (handle x)).deal) (sym same)
      ∙ ap (λ (t : Transaction). t.deal) slot in
      false≢true cc

  -- a deal that was found under h is d
  same_deal : (k : Handle) (found : Deal) → (transaction_at s.machine.transactions k).deal ≡ Some found → h.0 ≡ k.0 → found ≡ d
  same_deal k found live same =
      let lives : Some found ≡ Some d =
      sym live ∙ ap (λ (x : ℕ). (transaction_at s.machine.transactions (handle x)).deal) (sym same) ∙ ap (λ (t : Transaction). t.deal) slot in
      cc

  -- a call on handle k, which is h or another
  on_handle : (k : Handle) (found : Deal) (event : VmId → Handle → Event) → event_of a s ≡ event s.machine.current k
      → (transaction_at s.machine.transactions k).deal ≡ Some found
      → (new : Transaction) → (after a s).machine.transactions ≡ set s.machine.transactions k.0 new
      → (eqb k.0 h.0 ≡ false → marks (event s.machine.current k) h ≡ false)
      → (k ≡ h → found ≡ d → Stays a s h d pages) → Stays a s h d pages
  on_handle k found event f live new left other it =
      elim (ℕ_discrete h.0 k.0) [
        | yes same ↦ it (ap handle (sym same)) (same_deal k found live same)
        | no apart ↦ elsewhere _ f (other (not_same apart)) k new apart left
      ]

  -- the event is a party's, on h
  by_party : (event : VmId → Handle → Event) (g : VmId) (k : Handle) {who : VmId} → event_of a s ≡ event s.machine.current k
      → who ≡ s.machine.current → k ≡ h → who ≡ g → event_of a s ≡ event g h
  by_party event g k f by same_handle is = f ∙ (λ i. event ((sym by ∙ is) i) (same_handle i))

  retrieve_stays : (donates d.kind ≡ true → event_of a s ≡ Retrieved d.receiver h → ⊥)
      → (k : Handle) (found : Deal) → event_of a s ≡ Retrieved s.machine.current k
      → Handled s.machine receives false k found → Leaves a s (retrieved s.machine k found) → Stays a s h d pages
  unfolding retrieved settled receives marks
  retrieve_stays not-given k found f c leaves =
      on_handle k found Retrieved f c.is_live _ leaves.transactions (λ other. other) (λ same_handle same.
      let its : event_of a s ≡ Retrieved d.receiver h =
      by_party Retrieved d.receiver k f (same_vm_true _ _ c.is_party) same_handle (λ i. (same i).receiver) in
      let keeps : donates d.kind ≡ false = cannot_pass (λ gives. not-given gives its) in
      here true
      (leaves.transactions ∙ (λ i. (retrieved s.machine (same_handle i) (same i)).transactions) ∙ rw keeps)
      (sets its ((λ i. (sym same i).retrieved) ∙ c.is_marked) refl))

  relinquish_stays : (k : Handle) (found : Deal) → event_of a s ≡ Relinquished s.machine.current k
      → Handled s.machine receives true k found → Leaves a s (relinquished s.machine k found) → Stays a s h d pages
  unfolding relinquished settled receives marks
  relinquish_stays k found f c leaves =
      on_handle k found Relinquished f c.is_live _ leaves.transactions (λ other. other) (λ same_handle same.
      here false
      (leaves.transactions ∙ (λ i. (relinquished s.machine (same_handle i) (same i)).transactions))
      (clears
      (by_party Relinquished d.receiver k f (same_vm_true _ _ c.is_party) same_handle (λ i. (same i).receiver))
      ((λ i. (sym same i).retrieved) ∙ c.is_marked)
      refl))

  reclaim_stays : (k : Handle) (found : Deal) → event_of a s ≡ Reclaimed s.machine.current k
      → Handled s.machine sends false k found → Leaves a s (reclaimed s.machine k found)
      → (event_of a s ≡ Reclaimed d.sender h → ⊥) → Stays a s h d pages
  unfolding reclaimed settled sends marks
  reclaim_stays k found f c leaves not_yet =
      on_handle k found Reclaimed f c.is_live _ leaves.transactions (λ other. refl) (λ same_handle same.
      absurd (not_yet (by_party Reclaimed d.sender k f (same_vm_true _ _ c.is_party) same_handle (λ i. (same i).sender))))

  by_deed : (event_of a s ≡ Reclaimed d.sender h → ⊥) → (donates d.kind ≡ true → event_of a s ≡ Retrieved d.receiver h → ⊥)
      → Deed a s → Stays a s h d pages
  unfolding marks
  by_deed not_yet not-given (did_nothing f leaves memory) = untouched _ f refl (same_slot leaves)
  by_deed not_yet not-given (stored_it x v f may leaves memory) = untouched _ f refl (same_slot leaves)
  by_deed not_yet not-given (sent_message f below message leaves) = untouched _ f refl (same_slot leaves)
  by_deed not_yet not-given (sent_pages k j new-handle ps new f c transactions memory) =
      elsewhere _ f refl new-handle new (not_free new-handle c.was_free) transactions
  by_deed not_yet not-given (retrieved_it k found f c leaves memory) = retrieve_stays not-given k found f c leaves
  by_deed not_yet not-given (relinquished_it k found f c leaves memory) = relinquish_stays k found f c leaves
  by_deed not_yet not-given (reclaimed_it k found f c leaves memory) = reclaim_stays k found f c leaves not_yet

pub frame_law : FrameLaw
frame_law a s shaped h d pages slot not_yet not-given = by_deed a s h d pages slot not_yet not-given (act_deed a s shaped)
