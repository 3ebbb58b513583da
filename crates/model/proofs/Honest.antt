-- The events are honest.
use Rattle.std.specs.Prelude.{Option, None, Some}
use Prim.Native.Nat.{ℕ, ◌<◌}
use mathlib.Core.Path.{◌≡◌, refl, sym, ap, ◌∙◌}
use mathlib.Core.Bool.{Bool, true, false, cond}
use mathlib.Core.List.{List}
use mathlib.Core.Logic.{◌⊎◌, inl, inr}
use native.Mathlib.Omega.{arith}
use lib.ListN.{set}
use Rattle.model.specs.declared.VmId.{VmId}
use Rattle.model.specs.declared.Handle.{Handle}
use Rattle.model.specs.declared.Deal.{Deal}
use Rattle.model.specs.declared.Transaction.{Transaction}
use Rattle.model.specs.declared.Access.TheVariants.{Allowed}
use Rattle.model.specs.Constants.{HANDLES}
use Rattle.model.specs.State.{State, transaction_at, page_at, count_of}
use Rattle.model.specs.Shaped.{Shaped}
use Rattle.model.specs.Row.{donates, sends, receives}
use Rattle.model.specs.Due.{holds}
use Rattle.model.specs.Rights.{rights, access}
use Rattle.model.specs.Deeds.{settled, freed, marked, redealt, retrieved, relinquished, reclaimed}
use Rattle.model.specs.Act.{Act, after, Event, Quiet, Stored, Sent, Retrieved, Relinquished, Reclaimed, event_of}
use Rattle.model.specs.Honest.{with_store, SendsMessage, EventsAreHonest, Happened, PagesWent, EventsTakePlace}
use Rattle.model.proofs.State.{transaction_same}
use Rattle.model.proofs.Deed.{Handled, Deed, did_nothing, stored_it, sent_message, sent_pages, retrieved_it, relinquished_it, reclaimed_it, act_deed}

-- Memory.

-- it is what the event makes of it
told : (a : Act) (s : State) (e : Event) {memory : List ℕ} → event_of a s ≡ e → (after a s).memory ≡ memory → memory ≡ with_store e s.memory
    → ((after a s).memory ≡ with_store (event_of a s) s.memory) ⊎ SendsMessage a s
told a s e f left is = inl (left ∙ is ∙ ap (λ (e : Event). with_store e s.memory) (sym f))

honest : (a : Act) (s : State) → Deed a s → ((after a s).memory ≡ with_store (event_of a s) s.memory) ⊎ SendsMessage a s
unfolding with_store
honest a s (did_nothing f leaves memory) = told a s _ f memory refl
honest a s (stored_it x v f may leaves memory) = told a s _ f memory refl
honest a s (sent_message f below message leaves) = inr message
honest a s (sent_pages k j h ps new f c transactions memory) = told a s _ f memory refl
honest a s (retrieved_it h d f c leaves memory) = told a s _ f memory refl
honest a s (relinquished_it h d f c leaves memory) = told a s _ f memory refl
honest a s (reclaimed_it h d f c leaves memory) = told a s _ f memory refl

pub events_are_honest : EventsAreHonest
events_are_honest a s shaped = honest a s (act_deed a s shaped)

-- Handles.

-- the place of a handle that was settled anew
settled_life : (a : Act) (s : State) → Shaped s.machine → (h : Handle) → h.0 < HANDLES → (new : Transaction)
    → (after a s).machine.transactions ≡ set s.machine.transactions h.0 new
    → transaction_at (after a s).machine.transactions h ≡ new
settled_life a s shaped h b new left =
    ap (λ (t : List Transaction). transaction_at t h) left
    ∙ transaction_same s.machine.transactions h new (omega (arith, shaped.sixteen_transactions))

-- a call on a handle that has passed
happened : (a : Act) (s : State) → Shaped s.machine → (may : Deal → VmId → Bool) (mark : Bool) (left : Deal → Option Deal)
    → (h : Handle) (d : Deal) → Handled s.machine may mark h d → (new : Transaction)
    → (after a s).machine.transactions ≡ set s.machine.transactions h.0 new → new.deal ≡ left d
    → Happened a s s.machine.current h may mark left
happened a s shaped may mark left h d c new transactions life =
    record {
      deal = d;
      is_current = refl;
      was_live = c.is_live;
      was_party = c.is_party;
      was_marked = c.is_marked;
      is_left = ap (λ (t : Transaction). t.deal) (settled_life a s shaped h c.is_handle new transactions) ∙ life;
    }

-- a donation's place is free, another's marked
retrieved_life : (t : Transaction) (d : Deal) (b : Bool) → (cond b freed (redealt t (marked d true))).deal ≡ cond b None (Some (marked d true))
unfolding redealt
retrieved_life t d true = refl
retrieved_life t d false = refl

-- what the deed says, of the event that it has
module _ (a : Act) (s : State) (shaped : Shaped s.machine) where
  Says : Event → Type 0
  Says Quiet = Unit {0}
  Says (Stored g x v) = (s.machine.current ≡ g) × (access (rights s.machine).stores s.memory x ≡ Allowed)
  Says (Sent k i j h ps) = PagesWent a s k i j h ps
  Says (Retrieved g h) = Happened a s g h receives false (λ d. cond (donates d.kind) None (Some (marked d true)))
  Says (Relinquished g h) = Happened a s g h receives true (λ d. Some (marked d false))
  Says (Reclaimed g h) = Happened a s g h sends false (λ d. None)

  says : Deed a s → Says (event_of a s)
  unfolding Says retrieved relinquished reclaimed settled redealt holds count_of page_at
  says (did_nothing f leaves memory) = rw f tt
  says (stored_it x v f may leaves memory) = rw f (refl, may)
  says (sent_message f below message leaves) = rw f tt
  says (sent_pages k j h ps new f c transactions memory) =
      let slot = settled_life a s shaped h c.is_handle new transactions in
      rw f
      (record {
        is_current = refl;
        was_free = c.was_free;
        is_live = ap (λ (t : Transaction). t.deal) slot ∙ c.is_deal;
        just_these = λ p. ap (λ (t : Transaction). holds t p) slot ∙ c.just_these p;
        were_own = c.were_own;
      })
  says (retrieved_it h d f c leaves memory) =
      rw f (happened a s shaped receives false _ h d c _ leaves.transactions (retrieved_life (transaction_at s.machine.transactions h) d (donates d.kind)))
  says (relinquished_it h d f c leaves memory) =
      rw f (happened a s shaped receives true _ h d c _ leaves.transactions refl)
  says (reclaimed_it h d f c leaves memory) =
      rw f (happened a s shaped sends false _ h d c _ leaves.transactions refl)

pub events_take_place : EventsTakePlace
unfolding Says
events_take_place a s shaped =
    let all = says a s shaped (act_deed a s shaped) in
    record {
      stored = λ g x v e. rw e at all;
      sent = λ k i j h ps e. rw e at all;
      retrieved = λ g h e. rw e at all;
      relinquished = λ g h e. rw e at all;
      reclaimed = λ g h e. rw e at all;
    }
