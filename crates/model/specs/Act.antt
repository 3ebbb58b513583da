-- Acts, what each leaves, and the events that are read off the state before and after: the words in which promises over
-- time are said.
use Rattle.std.specs.Prelude.{ℕ, Bool, true, false, cond, List, [], ◌∷◌, get_or, eqb, Option, Some, None}
use Rattle.isa.specs.Tests.{◌and◌, ◌or◌}
use Rattle.isa.specs.declared.Instruction.{Instruction}
use Rattle.isa.specs.declared.Instruction.TheVariants.{Movi, Movt, Mov, Ldr, Str, Add, Sub, Addi, Cmp, Bne, Br, Hvc, Halt}
use Rattle.isa.specs.Decode.{decode_of}
use Rattle.model.specs.declared.VmId.{VmId}
use Rattle.model.specs.declared.PageId.{PageId}
use Rattle.model.specs.declared.Handle.{Handle}
use Rattle.model.specs.declared.Registers.{Registers}
use Rattle.model.specs.declared.Kind.{Kind}
use Rattle.model.specs.declared.Kind.TheVariants.{Donate, Lend, Share}
use Rattle.model.specs.Constants.{SUCCESS, DONATE, LEND, SHARE, RETRIEVE, RELINQUISH, RECLAIM}
use Rattle.model.specs.Tests.{listed}
use Rattle.model.specs.Answer.{is_done}
use Rattle.model.specs.State.{State, state, vm, handle, same_page, registers_at, register, own_registers, argument, is_normal}
use Rattle.model.specs.Memory.{fetched}
use Rattle.model.specs.Sending.{sent_to, sent_page, sent_count}
use Rattle.model.specs.Call.{Choice, on, chosen}
use Rattle.model.specs.Entries.{Acted, step_of, call_of}

-- Acts.

-- one step, or the current guest's call alone
pub data Act : Type 0 where
  step : Act
  call : Act

unfoldable pub entry_of : Act → State → Acted
entry_of step s = step_of s.machine s.memory
entry_of call s = call_of s.machine s.memory

-- the state that an act leaves: a refused one leaves it as it was
unfoldable pub after : Act → State → State
after a s = state (entry_of a s).result.machine (entry_of a s).memory

unfoldable pub after_all : List Act → State → State
after_all [] s = s
after_all (a ∷ rest) s = after_all rest (after a s)

-- Events.

pub data Event : Type 0 where
  Quiet : Event
  Stored : VmId → ℕ → ℕ → Event
  Sent : Kind → VmId → VmId → Handle → List PageId → Event
  Retrieved : VmId → Handle → Event
  Relinquished : VmId → Handle → Event
  Reclaimed : VmId → Handle → Event

-- p is one of the pages that an event names
unfoldable pub is_in : PageId → List PageId → Bool
is_in p [] = false
is_in p (q ∷ rest) = same_page q p or is_in p rest

-- what an act sets out to do, as far as events go: nothing, to store a word at an address, to call
pub data Aim : Type 0 where
  other : Aim
  storing : ℕ → ℕ → Aim
  calling : Aim

unfoldable pub aim_of : Instruction → Registers → Aim
aim_of (Movi d k) file = other
aim_of (Movt d k) file = other
aim_of (Mov d s) file = other
aim_of (Ldr d s) file = other
aim_of (Str d s) file = storing (register file s) (register file d)
aim_of (Add d s) file = other
aim_of (Sub d s) file = other
aim_of (Addi d k) file = other
aim_of (Cmp d s) file = other
aim_of (Bne s) file = other
aim_of (Br s) file = other
aim_of Hvc file = calling
aim_of Halt file = other

unfoldable pub aim_of_word : Option Instruction → Registers → Aim
aim_of_word (Some i) file = aim_of i file
aim_of_word None file = other

unfoldable pub aim : Act → State → Aim
aim step s = aim_of_word (decode_of (fetched (own_registers s.machine) s.memory)) (own_registers s.machine)
aim call s = calling

unfoldable pub if_so : Bool → Event → Event
if_so true event = event
if_so false event = Quiet

-- a store counts if the act was neither refused nor a fault
unfoldable pub store_event : ℕ → ℕ → Act → State → Event
store_event x v a s =
    if_so
    (is_done (entry_of a s).result.answer and is_normal (after a s).machine.mode)
    (Stored s.machine.current x v)

-- register i of the guest that was current in s, as it is in t
unfoldable pub callers_in : State → State → ℕ → ℕ
callers_in s t i = register (registers_at t.machine.registers s.machine.current) i

-- pages sent: to whom and which is read from the descriptor, how many from R1, and the handle from R2 afterwards
unfoldable pub sent_event : Kind → State → State → Event
sent_event kind s t =
    Sent kind s.machine.current (vm (sent_to s)) (handle (callers_in s t 2)) (listed (sent_count s) (sent_page s))

-- a call on the handle in R1
unfoldable pub handle_event : (VmId → Handle → Event) → State → State → Event
handle_event event s t = event s.machine.current (handle (argument s.machine 1))

abbrev pub tellings : List (Choice (State → State → Event))
tellings =
    on DONATE (sent_event Donate)
    ∷ on LEND (sent_event Lend)
    ∷ on SHARE (sent_event Share)
    ∷ on RETRIEVE (handle_event Retrieved)
    ∷ on RELINQUISH (handle_event Relinquished)
    ∷ on RECLAIM (handle_event Reclaimed)
    ∷ []

unfoldable pub no_event : State → State → Event
no_event s t = Quiet

-- a call from s that left t is told by R0 before, if R0 of the caller says success afterwards
unfoldable pub call_event : State → State → Event
call_event s t =
    if_so (eqb (callers_in s t 0) SUCCESS) (chosen tellings no_event (argument s.machine 0) s t)

unfoldable pub event_of_aim : Aim → Act → State → Event
event_of_aim other a s = Quiet
event_of_aim (storing x v) a s = store_event x v a s
event_of_aim calling a s = call_event s (after a s)

-- the event of an act in a state
unfoldable pub event_of : Act → State → Event
event_of a s = event_of_aim (aim a s) a s

unfoldable pub events : List Act → State → List Event
events [] s = []
events (a ∷ rest) s = event_of a s ∷ events rest (after a s)

abbrev pub event_at : List Event → ℕ → Event
event_at es q = get_or es q Quiet

-- Stores.

-- the word at x, which was w before the event
unfoldable pub stored : ℕ → Event → ℕ → ℕ
stored x Quiet w = w
stored x (Stored g y v) w = cond (eqb y x) v w
stored x (Sent kind i j h ps) w = w
stored x (Retrieved g h) w = w
stored x (Relinquished g h) w = w
stored x (Reclaimed g h) w = w

-- what the last store at x among the events put there, or w if there is none
unfoldable pub last_stored : ℕ → List Event → ℕ → ℕ
last_stored x [] w = w
last_stored x (e ∷ rest) w = last_stored x rest (stored x e w)
