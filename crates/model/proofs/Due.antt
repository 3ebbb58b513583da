-- The laws of `due`: the record that the table asks of a page in a transaction, of one in none, and of a mailbox page.
use Rattle.std.specs.Prelude.{Option, None, Some}
use Rattle.model.specs.declared.VmId.{VmId}
use Prim.Native.Nat.{ℕ, ◌<◌}
use mathlib.Core.Path.{◌≡◌, refl, ap, ◌∙◌}
use mathlib.Core.Bool.{true, false}
use mathlib.Core.List.{List}
use native.Mathlib.Omega.{arith}
use lib.ListN.{length, get_or-eq_default}
use Rattle.model.specs.declared.PageId.{PageId}
use Rattle.model.specs.declared.Handle.{Handle}
use Rattle.model.specs.declared.Mailbox.{Mailbox}
use Rattle.model.specs.declared.Deal.{Deal}
use Rattle.model.specs.declared.Transaction.{Transaction}
use Rattle.model.specs.declared.Machine.{Machine}
use Rattle.model.specs.Constants.{HANDLES}
use Rattle.model.specs.State.{handle, record_at, transaction_at, page_at, count_of}
use Rattle.model.specs.Row.{mailbox_row, free_row, row}
use Rattle.model.specs.Due.{is_mailbox, keeper, holds, holder, due_in, due}
use Rattle.model.specs.Sound.{NoPageTwice, Sound}
use Rattle.isa.proofs.Tests.{cannot_pass}
use Rattle.model.proofs.Tests.{at_some, some_at, first_is, none_first}
use Rattle.model.proofs.Same.{same_page_true, eq_same_page}

-- The pages that a transaction holds.

pub held_at : (t : Transaction) (p : PageId) → holds t p ≡ true → (i : ℕ) × (i < count_of t) × (page_at t i ≡ p)
unfolding holds
held_at t p e = let found = some_at _ _ e in (found.0, found.1, same_page_true _ _ found.2)

pub at_held : (t : Transaction) (i : ℕ) → i < count_of t → holds t (page_at t i) ≡ true
unfolding holds
at_held t i b = at_some _ _ i b (eq_same_page refl)

-- Who holds a page.

-- the transaction that holds it, if no page is in two
pub holder_is : (transactions : List Transaction) (h : Handle) (p : PageId) → NoPageTwice transactions
    → h.0 < HANDLES → holds (transaction_at transactions h) p ≡ true → holder transactions p ≡ h
unfolding holder
holder_is transactions h p once b e =
    ap handle (first_is _ _ h.0 b e (λ k l. cannot_pass (λ q. omega (arith, once h.0 k p b (omega arith) e q))))

-- behind the last transaction, if none does
pub no_holder : (transactions : List Transaction) (p : PageId)
    → ((h : ℕ) → h < HANDLES → holds (transaction_at transactions (handle h)) p ≡ false)
    → holder transactions p ≡ handle HANDLES
unfolding holder
no_holder transactions p none = ap handle (none_first _ _ none)

free_behind : (transactions : List Transaction) → length transactions ≡ HANDLES
    → (transaction_at transactions (handle HANDLES)).deal ≡ None
unfolding transaction_at
free_behind transactions e = ap (λ (t : Transaction). t.deal) (get_or-eq_default transactions _ (omega arith))

-- The record due to a page.

module _ (n : ℕ) (boxes : List Mailbox) (transactions : List Transaction) (owner : Option VmId) (p : PageId) where
  pub due_mailbox : is_mailbox n boxes p ≡ true → due n boxes transactions owner p ≡ mailbox_row (keeper n boxes p)
  unfolding due
  due_mailbox e = rw e

  pub due_in_lem : (h : Handle) → is_mailbox n boxes p ≡ false → holder transactions p ≡ h
      → due n boxes transactions owner p ≡ due_in (transaction_at transactions h).deal owner
  unfolding due
  due_in_lem h e q = rw (e, q)

  pub due_held : (h : Handle) (d : Deal) → NoPageTwice transactions → h.0 < HANDLES
      → (transaction_at transactions h).deal ≡ Some d → holds (transaction_at transactions h) p ≡ true
      → is_mailbox n boxes p ≡ false → due n boxes transactions owner p ≡ row d
  unfolding due_in
  due_held h d once b live e no_box = due_in_lem h no_box (holder_is transactions h p once b e) ∙ rw live

  pub due_free : length transactions ≡ HANDLES
      → ((h : ℕ) → h < HANDLES → holds (transaction_at transactions (handle h)) p ≡ false)
      → is_mailbox n boxes p ≡ false → due n boxes transactions owner p ≡ free_row owner
  unfolding due_in
  due_free sixteen none no_box =
      due_in_lem (handle HANDLES) no_box (no_holder transactions p none) ∙ rw (free_behind transactions sixteen)

-- A page of a live transaction on a sound machine.

module _ (m : Machine) (sound : Sound m) (h : Handle) (d : Deal) (p : PageId) (b : h.0 < HANDLES)
    (live : (transaction_at m.transactions h).deal ≡ Some d) (e : holds (transaction_at m.transactions h) p ≡ true) where
  pub page_below : p.0 < m.m
  page_below = let at = held_at _ p e in rw (← at.2) (sound.pages_below h.0 at.0 b at.1)

  pub page_no_mailbox : is_mailbox m.n m.mailboxes p ≡ false
  page_no_mailbox = let at = held_at _ p e in rw (← at.2) (sound.pages_no_mailbox h.0 at.0 b at.1)

  pub page_row : record_at m.records p ≡ row d
  page_row =
      sound.records_due p.0 page_below
      ∙ due_held m.n m.mailboxes m.transactions _ p h d sound.no_page_twice b live e page_no_mailbox
