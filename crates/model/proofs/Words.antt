-- The words on the pages of a transaction: who may store there, and what an act does to them.
use Rattle.std.specs.Prelude.{Some}
use Prim.Native.Nat.{ℕ, ◌<◌}
use mathlib.Core.Path.{◌≡◌, refl, sym, ap, ◌∙◌}
use mathlib.Core.Bool.{Bool, true, false, cond, false≢true}
use mathlib.Core.List.{List}
use mathlib.Core.Logic.{◌⊎◌, inl, inr}
use lib.ListN.{length, set}
use lib.Seq.{get_or-set_same, get_or-set_other}
use lib.Dec.{ltb, eqb}
use borrow.Author.Tests.{ltb-true, eqb-true, eqb-false}
use Rattle.model.specs.declared.VmId.{VmId}
use Rattle.model.specs.declared.PageId.{PageId}
use Rattle.model.specs.declared.Handle.{Handle}
use Rattle.model.specs.declared.PageRecord.{PageRecord}
use Rattle.model.specs.declared.Deal.{Deal}
use Rattle.model.specs.declared.Access.{Access}
use Rattle.model.specs.declared.Access.TheVariants.{Allowed}
use Rattle.model.specs.declared.Machine.{Machine}
use Rattle.model.specs.Constants.{HANDLES}
use Rattle.model.specs.State.{State, same_page, mailbox_at, record_at, transaction_at}
use Rattle.model.specs.VmSet.{has}
use Rattle.model.specs.Row.{shares, row}
use Rattle.model.specs.Due.{keeps, is_mailbox, holds}
use Rattle.model.specs.Rights.{right, rights, page_of, access}
use Rattle.model.specs.Memory.{loaded}
use Rattle.model.specs.Send.{send_to}
use Rattle.model.specs.Kept.{Fit}
use Rattle.model.specs.Act.{Act, after, Event, Quiet, Stored, event_of, stored}
use Rattle.isa.proofs.Tests.{not_both, cannot_pass, and_left, and_right, or_either, or_right}
use Rattle.model.proofs.Tests.{at_some}
use Rattle.model.proofs.Table.{row_access}
use Rattle.model.proofs.Same.{same_vm_true, same_page_true, eq_same_page}
use Rattle.model.proofs.Due.{page_row, page_no_mailbox}
use Rattle.model.proofs.Deed.{Deed, did_nothing, stored_it, sent_message, sent_pages, retrieved_it, relinquished_it, reclaimed_it, act_deed}

-- Access.

-- a choice that allows has passed its test
chosen_allowed : (b : Bool) (x : Access) {y : Access} → (y ≡ Allowed → ⊥) → cond b x y ≡ Allowed → (b ≡ true) × (x ≡ Allowed)
chosen_allowed true x never e = (refl, e)
chosen_allowed false x never e = absurd (never e)

-- an allowed address is inside memory, on a page to which the current guest has access
allowed_inside : (allowed : PageId → Access) (memory : List ℕ) (x : ℕ) → access allowed memory x ≡ Allowed
    → (x < length memory) × (allowed (page_of x) ≡ Allowed)
unfolding access
allowed_inside allowed memory x e =
    let c = chosen_allowed (ltb x (length memory)) (allowed (page_of x)) (λ q. false≢true cc) e in
    (ltb-true _ _ c.0, c.1)

allowed_has : (m : Machine) (p : PageId) → (rights m).stores p ≡ Allowed → has m.current (record_at m.records p).access ≡ true
unfolding rights right
allowed_has m p e = (chosen_allowed (has m.current (record_at m.records p).access) _ (λ q. false≢true cc) e).0

-- Parties.

-- who has access to the pages of a deal: the sender, if it shares, and the receiver while the mark is set
pub accessible : (d : Deal) (g : VmId) → has g (row d).access ≡ true
    → ((shares d.kind ≡ true) × (g ≡ d.sender)) ⊎ ((g ≡ d.receiver) × (d.retrieved ≡ true))
accessible d g e =
    elim (or_either _ _ (sym (row_access d g) ∙ e)) [
      | inl q ↦ inl (and_left _ _ q, same_vm_true _ _ (and_right _ _ q))
      | inr q ↦ inr (same_vm_true _ _ (and_right _ _ q), and_left _ _ q)
    ]

-- Acts.

module _ (a : Act) (s : State) (fit : Fit s) (h : Handle) (is_handle : h.0 < HANDLES)
    (d : Deal) (live : (transaction_at s.machine.transactions h).deal ≡ Some d)
    (x : ℕ) (held : holds (transaction_at s.machine.transactions h) (page_of x) ≡ true) where
  -- a store at x
  may_store : access (rights s.machine).stores s.memory x ≡ Allowed
      → ((shares d.kind ≡ true) × (s.machine.current ≡ d.sender)) ⊎ ((s.machine.current ≡ d.receiver) × (d.retrieved ≡ true))
  may_store e =
      accessible d s.machine.current
      (ap (λ (r : PageRecord). has s.machine.current r.access) (sym (page_row s.machine fit.sound h d (page_of x) is_handle live held))
      ∙ allowed_has s.machine (page_of x) (allowed_inside _ _ x e).1)

  store_by : (g : VmId) (v : ℕ) → event_of a s ≡ Stored g x v → Deed a s
      → ((shares d.kind ≡ true) × (g ≡ d.sender)) ⊎ ((g ≡ d.receiver) × (d.retrieved ≡ true))
  store_by g v e (stored_it y w f may leaves memory) =
      let same-guest : s.machine.current ≡ g = cc in
      let same_place : y ≡ x = cc in
      rw (← same-guest) (may_store (rw (← same_place) may))
  store_by g v e (did_nothing f leaves memory) = absurd (false≢true cc)
  store_by g v e (sent_message f below message leaves) = absurd (false≢true cc)
  store_by g v e (sent_pages k j new-handle ps new f c transactions memory) = absurd (false≢true cc)
  store_by g v e (retrieved_it k found f c leaves memory) = absurd (false≢true cc)
  store_by g v e (relinquished_it k found f c leaves memory) = absurd (false≢true cc)
  store_by g v e (reclaimed_it k found f c leaves memory) = absurd (false≢true cc)

  pub stored_by : (g : VmId) (v : ℕ) → event_of a s ≡ Stored g x v
      → ((shares d.kind ≡ true) × (g ≡ d.sender)) ⊎ ((g ≡ d.receiver) × (d.retrieved ≡ true))
  stored_by g v e = store_by g v e (act_deed a s fit.shaped)

  -- the word at x: after an event that is no store, and memory as it was
  AsTold : Type 0
  AsTold = loaded (after a s).memory x ≡ stored x (event_of a s) (loaded s.memory x)

  quiet_word : (e : Event) → ((w : ℕ) → stored x e w ≡ w) → event_of a s ≡ e
      → loaded (after a s).memory x ≡ loaded s.memory x → AsTold
  unfolding AsTold
  quiet_word e keeps f same = same ∙ sym (keeps _) ∙ ap (λ (e : Event). stored x e (loaded s.memory x)) (sym f)

  same_word : (after a s).memory ≡ s.memory → loaded (after a s).memory x ≡ loaded s.memory x
  same_word memory = ap (λ (l : List ℕ). loaded l x) memory

  -- after a store
  stored_word : (y v : ℕ) → y < length s.memory → loaded (set s.memory y v) x ≡ cond (eqb y x) v (loaded s.memory x)
  unfolding loaded
  stored_word y v inside = go (eqb y x) refl
    where
      go : (b : Bool) → eqb y x ≡ b → loaded (set s.memory y v) x ≡ cond b v (loaded s.memory x)
      go true p = rw (← eqb-true y x p) (get_or-set_same s.memory y v 0 inside)
      go false p = get_or-set_other s.memory y x v 0 (λ q. eqb-false y x p (sym q))

  -- after a message: no page of a transaction is a mailbox page
  no_receiver : (send_to s.machine).0 < s.machine.n
      → same_page (page_of x) (mailbox_at s.machine.mailboxes (send_to s.machine)).rx ≡ false
  unfolding is_mailbox keeps
  no_receiver below =
      cannot_pass (λ same.
      not_both
      (at_some s.machine.n _ (send_to s.machine).0 below (or_right _ (eq_same_page (sym (same_page_true _ _ same)))))
      (page_no_mailbox s.machine fit.sound h d (page_of x) is_handle live held))

  word_told : Deed a s → AsTold
  unfolding stored AsTold
  word_told (did_nothing f leaves memory) = quiet_word Quiet (λ w. refl) f (same_word memory)
  word_told (stored_it y v f may leaves memory) =
      ap (λ (l : List ℕ). loaded l x) memory
      ∙ stored_word y v (allowed_inside _ _ y may).0
      ∙ ap (λ (e : Event). stored x e (loaded s.memory x)) (sym f)
  word_told (sent_message f below message leaves) =
      quiet_word Quiet (λ w. refl) f (message.rest_stays x (no_receiver below))
  word_told (sent_pages k j new-handle ps new f c transactions memory) = quiet_word _ (λ w. refl) f (same_word memory)
  word_told (retrieved_it k found f c leaves memory) = quiet_word _ (λ w. refl) f (same_word memory)
  word_told (relinquished_it k found f c leaves memory) = quiet_word _ (λ w. refl) f (same_word memory)
  word_told (reclaimed_it k found f c leaves memory) = quiet_word _ (λ w. refl) f (same_word memory)

  pub word_after : loaded (after a s).memory x ≡ stored x (event_of a s) (loaded s.memory x)
  unfolding AsTold
  word_after = word_told (act_deed a s fit.shaped)
