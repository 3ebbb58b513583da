-- The events are honest: what an event says took place, and memory changes by nothing else but messages. Proved in
-- `proofs/Honest.antt`.
use Rattle.std.specs.Prelude.{ℕ, ◌≡◌, Bool, true, false, cond, List, ◌⊎◌, length, set, Option, None, Some}
use Rattle.model.specs.declared.VmId.{VmId}
use Rattle.model.specs.declared.PageId.{PageId}
use Rattle.model.specs.declared.Handle.{Handle}
use Rattle.model.specs.declared.Kind.{Kind}
use Rattle.model.specs.declared.Deal.{Deal}
use Rattle.model.specs.declared.Access.TheVariants.{Allowed}
use Rattle.model.specs.Constants.{SEND, SUCCESS}
use Rattle.model.specs.State.{State, same_page, mailbox_at, argument, record_at, transaction_at}
use Rattle.model.specs.Shaped.{Shaped}
use Rattle.model.specs.Row.{donates, sends, receives, owned_row}
use Rattle.model.specs.Table.{deal}
use Rattle.model.specs.Due.{holds}
use Rattle.model.specs.Rights.{rights, page_of, access}
use Rattle.model.specs.Memory.{loaded}
use Rattle.model.specs.Send.{send_to}
use Rattle.model.specs.Deeds.{marked}
use Rattle.model.specs.Sending.{is_free}
use Rattle.model.specs.Act.{Act, after, calling, aim, callers_in, is_in, Event, Quiet, Stored, Sent, Retrieved, Relinquished, Reclaimed, event_of}

-- Memory.

-- the words once the event's store, if it is one, is made
unfoldable pub with_store : Event → List ℕ → List ℕ
with_store Quiet memory = memory
with_store (Stored g x v) memory = set memory x v
with_store (Sent kind i j h ps) memory = memory
with_store (Retrieved g h) memory = memory
with_store (Relinquished g h) memory = memory
with_store (Reclaimed g h) memory = memory

-- a guest has sent a message: no word outside the receiver's RX page has changed
pub record SendsMessage (a : Act) (s : State) : Type 0 where
  pub calls : aim a s ≡ calling
  pub by_number : argument s.machine 0 ≡ SEND
  pub succeeds : callers_in s (after a s) 0 ≡ SUCCESS
  pub rest_stays :
      (x : ℕ) → same_page (page_of x) (mailbox_at s.machine.mailboxes (send_to s.machine)).rx ≡ false
      → loaded (after a s).memory x ≡ loaded s.memory x

-- memory is as the event says, or there was a message
abbrev pub EventsAreHonest : Type 0
EventsAreHonest =
    (a : Act) (s : State) → Shaped s.machine
    → ((after a s).memory ≡ with_store (event_of a s) s.memory) ⊎ SendsMessage a s

-- Handles.

-- guest g, the party that may, found a deal under h, marked so, and left this there
pub record Happened (a : Act) (s : State) (g : VmId) (h : Handle)
    (may : Deal → VmId → Bool) (mark : Bool) (left : Deal → Option Deal) : Type 0 where
  pub deal : Deal
  pub is_current : s.machine.current ≡ g
  pub was_live : (transaction_at s.machine.transactions h).deal ≡ Some deal
  pub was_party : may deal g ≡ true
  pub was_marked : deal.retrieved ≡ mark
  pub is_left : (transaction_at (after a s).machine.transactions h).deal ≡ left deal

-- guest i has sent just these pages, its own, to j under h, which was free
pub record PagesWent (a : Act) (s : State) (k : Kind) (i j : VmId) (h : Handle) (ps : List PageId) : Type 0 where
  pub is_current : s.machine.current ≡ i
  pub was_free : is_free (transaction_at s.machine.transactions h).deal ≡ true
  pub is_live : (transaction_at (after a s).machine.transactions h).deal ≡ Some (deal i j k false (length ps))
  pub just_these : (p : PageId) → holds (transaction_at (after a s).machine.transactions h) p ≡ is_in p ps
  pub were_own : (p : PageId) → is_in p ps ≡ true → record_at s.machine.records p ≡ owned_row i

-- a store was allowed; pages went; a handle was free or live, its mark and its parties as they must be
pub record TookPlace (a : Act) (s : State) : Type 0 where
  pub stored :
      (g : VmId) (x v : ℕ) → event_of a s ≡ Stored g x v
      → (s.machine.current ≡ g) × (access (rights s.machine).stores s.memory x ≡ Allowed)
  pub sent : (k : Kind) (i j : VmId) (h : Handle) (ps : List PageId) → event_of a s ≡ Sent k i j h ps → PagesWent a s k i j h ps
  pub retrieved :
      (g : VmId) (h : Handle) → event_of a s ≡ Retrieved g h
      → Happened a s g h receives false (λ d. cond (donates d.kind) None (Some (marked d true)))
  pub relinquished :
      (g : VmId) (h : Handle) → event_of a s ≡ Relinquished g h → Happened a s g h receives true (λ d. Some (marked d false))
  pub reclaimed : (g : VmId) (h : Handle) → event_of a s ≡ Reclaimed g h → Happened a s g h sends false (λ d. None)

abbrev pub EventsTakePlace : Type 0
EventsTakePlace = (a : Act) (s : State) → Shaped s.machine → TookPlace a s
