-- A run up to and including the next call, and what is told of a call: the lines of a bench.
use Rattle.std.specs.Prelude.{ℕ, zero, suc, ◌+◌, Bool, true, false, List, [], ◌∷◌, Option, None, Some}
use Rattle.model.specs.declared.MadeCall.{MadeCall}
use Rattle.model.specs.declared.VmId.{VmId}
use Rattle.model.specs.declared.Machine.{Machine}
use Rattle.model.specs.declared.Answer.{Answer}
use Rattle.model.specs.declared.RanToCall.{RanToCall}
use Rattle.model.specs.State.{State, state, own_registers, argument, registers_at, register, is_normal}
use Rattle.model.specs.Rights.{rights}
use Rattle.model.specs.Execute.{Move, moved, called, faulted, halted, guest_step}
use Rattle.model.specs.Step.{step_effect}
use Rattle.model.specs.Answer.{is_done}
use Rattle.model.specs.Entries.{check_of}

unfoldable pub is_called : Move → Bool
is_called (moved file memory) = false
is_called called = true
is_called faulted = false
is_called halted = false

-- the current guest's next instruction is a call
unfoldable pub calls_next : State → Bool
calls_next s = is_called (guest_step (rights s.machine) (own_registers s.machine) s.memory)

abbrev pub made : VmId → ℕ → MadeCall
made caller r0 = record { caller = caller; r0 = r0 }

-- a run up to a call: where it came to, its steps, and the call
pub record Leg : Type 0 where
  pub reached : State
  pub count : ℕ
  pub call : Option MadeCall

abbrev pub leg : State → ℕ → Option MadeCall → Leg
leg s count call = record { reached = s; count = count; call = call }

unfoldable pub leg_after_step : Leg → Leg
leg_after_step l = leg l.reached (l.count + 1) l.call

-- steps while the mode is normal and the budget lasts, but none after a call
unfoldable pub to_call : ℕ → State → Leg
to_call zero s = leg s 0 None
to_call (suc budget) s =
    elim (is_normal s.machine.mode) [
      | true ↦
          elim (calls_next s) [
            | true ↦ leg (step_effect s) 1 (Some (made s.machine.current (argument s.machine 0)))
            | false ↦ leg_after_step (to_call budget (step_effect s))
          ]
      | false ↦ leg s 0 None
    ]

-- what a run up to a call leaves: its result, and the memory
pub record WentToCall : Type 0 where
  pub result : RanToCall
  pub memory : List ℕ

abbrev pub went_to_call : Answer → Leg → WentToCall
went_to_call answer l =
    record {
      result = record { answer = answer; machine = l.reached.machine; count = l.count; call = l.call };
      memory = l.reached.memory;
    }

-- a refused one takes no step
unfoldable pub went_to_call_by : Answer → ℕ → State → WentToCall
went_to_call_by answer budget s = went_to_call answer (elim (is_done answer) [ true ↦ to_call budget s | false ↦ leg s 0 None ])

unfoldable pub run_to_call_of : Machine → List ℕ → ℕ → WentToCall
run_to_call_of m memory budget = went_to_call_by (check_of m memory) budget (state m memory)

-- A line of a bench: the number of the step from 1 on, the caller, and of its registers R0 before, R0 after and R2 after.

pub record Line : Type 0 where
  pub step : ℕ
  pub caller : VmId
  pub r0_before : ℕ
  pub r0_after : ℕ
  pub r2_after : ℕ

unfoldable pub line_of : ℕ → VmId → ℕ → Machine → Line
line_of step caller before after =
    record {
      step = step;
      caller = caller;
      r0_before = before;
      r0_after = register (registers_at after.registers caller) 0;
      r2_after = register (registers_at after.registers caller) 2;
    }

-- the lines of a run that goes on after so many steps
unfoldable pub lines_from : ℕ → ℕ → State → List Line
lines_from taken zero s = []
lines_from taken (suc budget) s =
    elim (is_normal s.machine.mode) [
      | true ↦
          elim (calls_next s) [
            | true ↦
                line_of (taken + 1) s.machine.current (argument s.machine 0) (step_effect s).machine
                ∷ lines_from (taken + 1) budget (step_effect s)
            | false ↦ lines_from (taken + 1) budget (step_effect s)
          ]
      | false ↦ []
    ]
