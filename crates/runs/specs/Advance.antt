-- Steps up to the end of a budget, or to the next call, with what is left of the budget.
use Rattle.model.specs.ToCall.{made, calls_next}
use Rattle.std.specs.Prelude.{ℕ, zero, suc, Bool, true, false, List, Option, None, Some}
use Rattle.model.specs.declared.MadeCall.{MadeCall}
use Rattle.isa.specs.Tests.{◌and◌}
use Rattle.runs.specs.declared.Advanced.{Advanced}
use Rattle.model.specs.declared.VmId.{VmId}
use Rattle.model.specs.declared.Registers.{Registers}
use Rattle.model.specs.declared.Machine.{Machine}
use Rattle.model.specs.declared.Mode.TheVariants as mode
use Rattle.exec.specs.declared.instruction.Stop.{Stop}
use Rattle.exec.specs.declared.instruction.Stop.TheVariants.{Moved, Called, Faulted, Halted}
use Rattle.model.specs.Constants.{YIELD}
use Rattle.model.specs.State.{State, state, argument, is_normal, with_mode, with_register}
use Rattle.model.specs.Step.{with_own, hvc, step_effect}
use Rattle.exec.specs.Burst.{Burst}

-- where the steps came to, what is left of the budget, and the call that ended them
pub record Rest : Type 0 where
  pub reached : State
  pub left : ℕ
  pub call : Option MadeCall

abbrev pub rest : State → ℕ → Option MadeCall → Rest
rest s left call = record { reached = s; left = left; call = call }

-- the same, of the code's own struct and the memory
abbrev pub rest_of : Advanced → List ℕ → Rest
rest_of a memory = rest (state a.machine memory) a.left a.call

-- steps while the mode is normal and the budget lasts; none after a call if only the way to it is wanted
unfoldable pub advance_of : Bool → ℕ → State → Rest
advance_of onlyToCall zero s = rest s 0 None
advance_of onlyToCall (suc budget) s =
    elim (is_normal s.machine.mode) [
      | true ↦
          elim (onlyToCall and calls_next s) [
            | true ↦ rest (step_effect s) budget (Some (made s.machine.current (argument s.machine 0)))
            | false ↦ advance_of onlyToCall budget (step_effect s)
          ]
      | false ↦ rest s (suc budget) None
    ]

-- Pieces of it.

unfoldable pub by_call : Stop → Bool
by_call Moved = false
by_call Called = true
by_call Faulted = false
by_call Halted = false

-- the machine once its guest has stopped without a call: a fault and a halt change the mode
unfoldable pub ended_by : Stop → Machine → Machine
ended_by Moved m = m
ended_by Called m = m
ended_by Faulted m = with_mode m mode.Fault
ended_by Halted m = with_mode m mode.Halted

-- what follows a burst that ended so, with the guest's registers put back: the call, or the end
unfoldable pub after_stop : Bool → Bool → Stop → State → ℕ → Rest
after_stop onlyToCall false stop s left = rest (state (ended_by stop s.machine) s.memory) left None
after_stop true true stop s left = rest (hvc s) left (Some (made s.machine.current (argument s.machine 0)))
after_stop false true stop s left = advance_of false left (hvc s)

unfoldable pub after_burst : Bool → Machine → Burst → Rest
after_burst onlyToCall m b =
    after_stop
    onlyToCall
    (by_call b.last.stop)
    b.last.stop
    (state (with_own m b.last.file) b.last.memory)
    b.left

-- guest 0's registers once a secondary has yielded
unfoldable pub told_of : Registers → VmId → Registers
told_of file caller = with_register (with_register file 0 YIELD) 1 caller.0
