-- How a call is answered: a verdict, reached by a chain of tests, and what it does to the state.
use Rattle.std.specs.Prelude.{ℕ, Bool, true, false, cond, not, List, ltb}
use Rattle.isa.specs.Tests.{◌and◌}
use Rattle.model.specs.declared.VmId.{VmId}
use Rattle.model.specs.declared.Registers.{Registers}
use Rattle.model.specs.declared.Machine.{Machine}
use Rattle.model.specs.Constants.{ERROR, SUCCESS}
use Rattle.model.specs.State.{State, state, vm, same_vm, primary, is_primary, written, with_registers, with_current}

pub data Verdict : Type 0 where
  passes : Verdict
  refused : ℕ → Verdict

-- the first test that fails gives its code
unfoldable pub need : Bool → ℕ → Verdict → Verdict
need true code rest = rest
need false code rest = refused code

-- an error: R0 and R2 of the caller, and nothing else
unfoldable pub with_error : Machine → ℕ → Machine
with_error m code = with_registers m (written (written m.registers m.current 0 ERROR) m.current 2 code)

-- the state after a call: what it does if the verdict passes, else the error
unfoldable pub answer : Verdict → State → State → State
answer passes before done = done
answer (refused code) before done = state (with_error before.machine code) before.memory

-- success in the caller's R0
unfoldable pub succeeded : Machine → Machine
succeeded m = with_registers m (written m.registers m.current 0 SUCCESS)

-- guest 0's R0 says why it is current again, its R1 who called
unfoldable pub told : List Registers → ℕ → VmId → List Registers
told files why caller = written (written files primary 0 why) primary 1 caller.0

-- guest 0 is current, with its registers as given if a secondary called; it was already if it called itself
unfoldable pub woken : Machine → List Registers → Machine
woken m files = with_current (with_registers m (cond (is_primary m.current) m.registers files)) primary

-- guest 0 is current, and knows by which call and whose
unfoldable pub handed_over : Machine → ℕ → Machine
handed_over m why = woken m (told m.registers why m.current)

-- the word is the number of a guest other than the caller
unfoldable pub is_other : Machine → ℕ → Bool
is_other m g = ltb g m.n and not (same_vm (vm g) m.current)
