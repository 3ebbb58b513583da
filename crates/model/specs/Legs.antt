-- Runs up to a call: what such a run is, that runs are made of them, and the lines of a bench. Proved in `proofs/Legs.antt`.
use Rattle.model.specs.ToCall.{made, calls_next, Leg, leg, to_call, WentToCall, went_to_call, run_to_call_of, Line, line_of, lines_from}
use Rattle.std.specs.Prelude.{ℕ, ◌+◌, ◌-◌, ◌*◌, ◌≤◌, ◌<◌, ◌≡◌, true, false, List, [], ◌∷◌, ◌++◌, replicate, Option, None, Some}
use Rattle.model.specs.declared.MadeCall.{MadeCall}
use Rattle.model.specs.declared.VmId.{VmId}
use Rattle.model.specs.declared.Mode.{Mode}
use Rattle.model.specs.declared.Mode.TheVariants.{Normal, Halted}
use Rattle.model.specs.declared.Machine.{Machine}
use Rattle.model.specs.State.{State, state, vm, argument, is_normal}
use Rattle.model.specs.Answer.{answer_number, is_done}
use Rattle.model.specs.Deeds.{freed}
use Rattle.model.specs.Blank.{blank_registers}
use Rattle.model.specs.Entries.{check_of, steps, run_of}
use Rattle.model.specs.Act as act
use Rattle.model.specs.Kept.{Accepted}
use Rattle.model.specs.RunSteps.{stepped}
use Rattle.model.specs.PCases.{box, owned, ownerless, words}

-- A run up to a call is its steps.

-- the last of so many steps from s is a call by g, with w in its R0
pub record EndsInCall (s : State) (count : ℕ) (g : VmId) (w : ℕ) : Type 0 where
  pub before : ℕ
  pub one_more : count ≡ before + 1
  pub is_call : calls_next (stepped before s) ≡ true
  pub caller : (stepped before s).machine.current ≡ g
  pub r0 : argument (stepped before s).machine 0 ≡ w

-- what it left is what its count of steps leaves; each of them was taken in mode normal, and none but the last was a call;
-- it names a call exactly if the last one was it; and it stopped short of the budget only at a call, or where the mode is no
-- longer normal
pub record LegSteps (s : State) (budget : ℕ) (a : WentToCall) : Type 0 where
  pub answers_0 : is_done a.result.answer ≡ true
  pub is_stepped : state a.result.machine a.memory ≡ stepped a.result.count s
  pub within_budget : a.result.count ≤ budget
  pub each_normal : (i : ℕ) → i < a.result.count → is_normal (stepped i s).machine.mode ≡ true
  pub each_answers_0 : (i : ℕ) → i < a.result.count → is_done (act.entry_of act.step (stepped i s)).result.answer ≡ true
  pub no_call_before : (i : ℕ) → i + 1 < a.result.count → calls_next (stepped i s) ≡ false
  pub named_is_last : (g : VmId) (w : ℕ) → a.result.call ≡ Some (made g w) → EndsInCall s a.result.count g w
  pub last_is_named : (g : VmId) (w : ℕ) → EndsInCall s a.result.count g w → a.result.call ≡ Some (made g w)
  pub stops_short : a.result.call ≡ None → a.result.count < budget → is_normal a.result.machine.mode ≡ false

abbrev pub LegIsItsSteps : Type 0
LegIsItsSteps = (s : State) → Accepted s → (budget : ℕ) → LegSteps s budget (run_to_call_of s.machine s.memory budget)

-- A refused one answers as the check does, takes no step, names no call, and leaves the machine and the memory.
abbrev pub LegRefused : Type 0
LegRefused =
    (m : Machine) (memory : List ℕ) (budget : ℕ) → is_done (check_of m memory) ≡ false
    → run_to_call_of m memory budget ≡ went_to_call (check_of m memory) (leg (state m memory) 0 None)

-- A run is a leg, and then the rest; so are its lines.

-- the line of the call that a leg came to, if it came to one
unfoldable pub line_for : ℕ → Option MadeCall → Machine → List Line
line_for step None after = []
line_for step (Some made) after = line_of step made.caller made.r0 after ∷ []

pub record ThenRest (budget : ℕ) (s : State) (l : Leg) : Type 0 where
  pub reaches : (steps budget s).reached ≡ (steps (budget - l.count) l.reached).reached
  pub adds_up : (steps budget s).count ≡ l.count + (steps (budget - l.count) l.reached).count
  pub tells :
      (taken : ℕ)
      → lines_from taken budget s
      ≡ line_for (taken + l.count) l.call l.reached.machine
      ++ lines_from (taken + l.count) (budget - l.count) l.reached

abbrev pub LegThenRest : Type 0
LegThenRest = (budget : ℕ) (s : State) → ThenRest budget s (to_call budget s)

-- there is no line where there is no step: the budget is used, or the mode is no longer normal
pub record NoLines (taken : ℕ) (s : State) : Type 0 where
  pub budget_used : lines_from taken 0 s ≡ []
  pub mode_left : (budget : ℕ) → is_normal s.machine.mode ≡ false → lines_from taken budget s ≡ []

abbrev pub LinesEnd : Type 0
LinesEnd = (taken : ℕ) (s : State) → NoLines taken s

-- Worked cases of a bench, computed.

-- two guests and seven pages: pages 0 and 1 are owned by guests 0 and 1 and have their code, pages 2 to 5 are TX and RX of
-- both, and page 6 is spare
unfoldable pub two_guests : Machine
two_guests =
    record {
      n = 2;
      m = 7;
      registers = blank_registers ∷ record { r = replicate 8 0; pc = 0x400; equal = false } ∷ replicate 6 blank_registers;
      mailboxes = box 2 3 ∷ box 4 5 ∷ replicate 6 (box 0 0);
      inboxes = replicate 8 None;
      records =
          owned 0 0b01 true
          ∷ owned 1 0b10 true
          ∷ ownerless 0b01 true
          ∷ ownerless 0b01 true
          ∷ ownerless 0b10 true
          ∷ ownerless 0b10 true
          ∷ replicate 58 (ownerless 0 false);
      transactions = replicate 16 freed;
      current = vm 0;
      mode = Normal;
    }

-- their programs laid into the memory
unfoldable pub programs : List ℕ → List ℕ → State
programs zero one = state two_guests (words 0 zero (words 0x400 one (replicate (1024 * 7) 0)))

-- what the bench shows of a run: its lines, its answer and count, and the last mode
pub record Shown : Type 0 where
  pub lines : List Line
  pub answer : ℕ
  pub count : ℕ
  pub mode : Mode

unfoldable pub shown : ℕ → State → Shown
shown budget s =
    let ran = (run_of s.machine s.memory budget).result in
    record { lines = lines_from 0 budget s; answer = answer_number ran.answer; count = ran.count; mode = ran.machine.mode }

unfoldable pub line : ℕ → VmId → ℕ → ℕ → ℕ → Line
line step caller before after second =
    record { step = step; caller = caller; r0_before = before; r0_after = after; r2_after = second }

pub record BenchExample : Type 0 where
  -- the scope document's example: guest 0 yields, and halts
  pub yields :
      shown 100 (programs (0x006C0001 ∷ 0x84000002 ∷ 0x0000000C ∷ 0x0000000D ∷ []) [])
      ≡ record { lines = line 3 (vm 0) 0x8400006C 0x84000061 0 ∷ []; answer = 0; count = 4; mode = Halted }
  -- the same with a budget that ends before the call, and with one that ends behind it
  pub before_the_call :
      shown 2 (programs (0x006C0001 ∷ 0x84000002 ∷ 0x0000000C ∷ 0x0000000D ∷ []) [])
      ≡ record { lines = []; answer = 0; count = 2; mode = Normal }
  pub behind_the_call :
      shown 3 (programs (0x006C0001 ∷ 0x84000002 ∷ 0x0000000C ∷ 0x0000000D ∷ []) [])
      ≡ record { lines = line 3 (vm 0) 0x8400006C 0x84000061 0 ∷ []; answer = 0; count = 3; mode = Normal }
  -- guest 0 runs guest 1, which sets R2 and yields; guest 0 then makes a call that there is not, and halts. Each line has
  -- its caller's registers, though the other guest is current by then
  pub switches :
      shown
      100
      (programs
      (0x00010101 ∷ 0x006D0001 ∷ 0x84000002 ∷ 0x0000000C ∷ 0x00000001 ∷ 0x0000000C ∷ 0x0000000D ∷ [])
      (0xBEEF0202 ∷ 0x006C0001 ∷ 0x84000002 ∷ 0x0000000C ∷ []))
      ≡ record {
        lines =
            line 4 (vm 0) 0x8400006D 0x8400006D 0
            ∷ line 8 (vm 1) 0x8400006C 0x84000061 0xBEEF0000
            ∷ line 10 (vm 0) 0 0x84000060 0xFFFFFFFF
            ∷ [];
        answer = 0;
        count = 11;
        mode = Halted;
      }
