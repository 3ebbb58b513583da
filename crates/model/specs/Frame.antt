-- The frame law of a transaction: no act takes a live handle from its deal and its pages but the sender's reclaim and, of a
-- donation, the receiver's retrieve; and the mark follows the events. Proved in `proofs/Frame.antt`.
use Rattle.std.specs.Prelude.{◌≡◌, Bool, true, false, List, Some}
use Rattle.model.specs.declared.VmId.{VmId}
use Rattle.model.specs.declared.PageId.{PageId}
use Rattle.model.specs.declared.Handle.{Handle}
use Rattle.model.specs.declared.Deal.{Deal}
use Rattle.model.specs.declared.Transaction.{Transaction}
use Rattle.model.specs.State.{State, transaction_at}
use Rattle.model.specs.Shaped.{Shaped}
use Rattle.model.specs.Row.{donates}
use Rattle.model.specs.Deeds.{marked}
use Rattle.model.specs.Act.{Act, after, Event, Retrieved, Relinquished, Reclaimed, event_of}

-- a live transaction
abbrev pub dealt : Deal → List PageId → Transaction
dealt d pages = record { deal = Some d; pages = pages }

-- what an event does to the mark of h, whose receiver is j
pub data Marking (j : VmId) (h : Handle) (e : Event) (before after : Bool) : Type 0 where
  sets : e ≡ Retrieved j h → before ≡ false → after ≡ true → Marking j h e before after
  clears : e ≡ Relinquished j h → before ≡ true → after ≡ false → Marking j h e before after
  stays : (e ≡ Retrieved j h → ⊥) → (e ≡ Relinquished j h → ⊥) → after ≡ before → Marking j h e before after

-- the deal d under h is there after the act
pub record Stays (a : Act) (s : State) (h : Handle) (d : Deal) (pages : List PageId) : Type 0 where
  pub mark : Bool
  pub slot : transaction_at (after a s).machine.transactions h ≡ dealt (marked d mark) pages
  pub marking : Marking d.receiver h (event_of a s) d.retrieved mark

-- whoever acts, and whatever it is
abbrev pub FrameLaw : Type 0
FrameLaw =
    (a : Act) (s : State) → Shaped s.machine
    → (h : Handle) (d : Deal) (pages : List PageId) → transaction_at s.machine.transactions h ≡ dealt d pages
    → (event_of a s ≡ Reclaimed d.sender h → ⊥)
    → (donates d.kind ≡ true → event_of a s ≡ Retrieved d.receiver h → ⊥)
    → Stays a s h d pages
