-- What a call and a step do, case by case: for each case how it came about and what it leaves. Every theorem about acts
-- goes by these cases.
use Rattle.std.specs.Prelude.{Some}
use Prim.Native.Nat.{ℕ, ◌<◌}
use mathlib.Core.Path.{◌≡◌}
use mathlib.Core.Bool.{Bool, true, false}
use lib.ListN.{length, set}
use Rattle.model.specs.declared.VmId.{VmId}
use Rattle.model.specs.declared.Handle.{Handle}
use Rattle.model.specs.declared.Registers.{Registers}
use Rattle.model.specs.declared.Kind.{Kind}
use Rattle.model.specs.declared.Kind.TheVariants.{Donate, Lend, Share}
use Rattle.model.specs.declared.Deal.{Deal}
use Rattle.model.specs.declared.Machine.{Machine}
use Rattle.model.specs.declared.Access.TheVariants.{Allowed}
use Rattle.model.specs.Constants.{HANDLES, SEND, DONATE, LEND, SHARE, RETRIEVE, RELINQUISH, RECLAIM}
use Rattle.model.specs.State.{State, state, vm, handle, own_registers, argument, transaction_at, with_current}
use Rattle.model.specs.Row.{sends, receives}
use Rattle.model.specs.Rights.{rights, access}
use Rattle.model.specs.Execute.{advanced}
use Rattle.model.specs.Reply.{passes, with_error, succeeded, handed_over}
use Rattle.model.specs.Poll.{polled}
use Rattle.model.specs.Send.{send_verdict, send_to, delivered, notified, copied}
use Rattle.model.specs.Deeds.{retrieved, relinquished, reclaimed}
use Rattle.model.specs.Sending.{sending_verdict, sent, with_handle, lowest_free}
use Rattle.model.specs.Call.{chosen}
use Rattle.model.specs.Step.{with_own, hvc, fault, halt}
use Rattle.model.specs.Act.{step, other, storing, calling, aim, tellings, no_event}

-- Calls.

-- the number of the call that sends pages so
unfoldable pub sending_number : Kind → ℕ
sending_number Donate = DONATE
sending_number Lend = LEND
sending_number Share = SHARE

-- R0 is none of the numbers that an event tells of
abbrev pub Silent : Machine → Type 0
Silent m = chosen tellings no_event (argument m 0) ≡ no_event

-- the handle in R1
abbrev pub own_handle : Machine → Handle
own_handle m = handle (argument m 1)

-- the current guest has called this number on a live handle, is the party that may, and the mark is as it must be
pub record OnHandle (m : Machine) (number : ℕ) (may : Deal → VmId → Bool) (mark : Bool) (d : Deal) : Type 0 where
  pub by_number : argument m 0 ≡ number
  pub is_handle : argument m 1 < HANDLES
  pub is_live : (transaction_at m.transactions (own_handle m)).deal ≡ Some d
  pub is_party : may d m.current ≡ true
  pub is_marked : d.retrieved ≡ mark

-- a call from s leaves t
pub data CallCase (s t : State) : Type 0 where
  was_refused : (code : ℕ) → t ≡ state (with_error s.machine code) s.memory → CallCase s t
  did_run :
      Silent s.machine → argument s.machine 1 < s.machine.n
      → t ≡ state (with_current s.machine (vm (argument s.machine 1))) s.memory → CallCase s t
  did_hand_over :
      (why : ℕ) → Silent s.machine → t ≡ state (handed_over (succeeded s.machine) why) s.memory → CallCase s t
  did_poll : Silent s.machine → t ≡ state (polled s.machine) s.memory → CallCase s t
  did_send :
      argument s.machine 0 ≡ SEND → send_verdict s.machine ≡ passes
      → t ≡ state (notified (succeeded (delivered s.machine)) (send_to s.machine)) (copied s) → CallCase s t
  did_send_pages :
      (kind : Kind) → argument s.machine 0 ≡ sending_number kind → sending_verdict kind s ≡ passes
      → t ≡ state (with_handle (succeeded (sent kind s)) (lowest_free s.machine.transactions)) s.memory → CallCase s t
  did_retrieve :
      (d : Deal) → OnHandle s.machine RETRIEVE receives false d
      → t ≡ state (succeeded (retrieved s.machine (own_handle s.machine) d)) s.memory → CallCase s t
  did_relinquish :
      (d : Deal) → OnHandle s.machine RELINQUISH receives true d
      → t ≡ state (succeeded (relinquished s.machine (own_handle s.machine) d)) s.memory → CallCase s t
  did_reclaim :
      (d : Deal) → OnHandle s.machine RECLAIM sends false d
      → t ≡ state (succeeded (reclaimed s.machine (own_handle s.machine) d)) s.memory → CallCase s t

-- Steps.

-- a step from s leaves t
pub data StepCase (s t : State) : Type 0 where
  did_move :
      (file : Registers) → aim step s ≡ other → length file.r ≡ length (own_registers s.machine).r
      → t ≡ state (with_own s.machine file) s.memory → StepCase s t
  did_store :
      (x v : ℕ) → aim step s ≡ storing x v → access (rights s.machine).stores s.memory x ≡ Allowed
      → t ≡ state (with_own s.machine (advanced (own_registers s.machine))) (set s.memory x v) → StepCase s t
  did_call : aim step s ≡ calling → t ≡ hvc s → StepCase s t
  did_fault : t ≡ fault s → StepCase s t
  did_halt : t ≡ halt s → StepCase s t
