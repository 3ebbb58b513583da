-- One step of the machine: the current guest's instruction.
use Rattle.std.specs.Prelude.{set}
use Rattle.model.specs.declared.Registers.{Registers}
use Rattle.model.specs.declared.Mode.TheVariants.{Fault, Halted}
use Rattle.model.specs.declared.Machine.{Machine}
use Rattle.model.specs.State.{State, state, own_registers, with_registers, with_mode}
use Rattle.model.specs.Rights.{rights}
use Rattle.model.specs.Execute.{Move, moved, called, faulted, halted, advanced, guest_step}
use Rattle.model.specs.Call.{call_effect}

-- the current guest's registers replaced
unfoldable pub with_own : Machine → Registers → Machine
with_own m file = with_registers m (set m.registers m.current.0 file)

-- the call of an hvc: the caller's pc goes on, whatever the call answers
unfoldable pub hvc : State → State
hvc s = call_effect (state (with_own s.machine (advanced (own_registers s.machine))) s.memory)

-- a miss changes the mode alone, and so does a halt
unfoldable pub fault : State → State
fault s = state (with_mode s.machine Fault) s.memory

unfoldable pub halt : State → State
halt s = state (with_mode s.machine Halted) s.memory

unfoldable pub ended : Move → State → State
ended (moved file memory) s = state (with_own s.machine file) memory
ended called s = hvc s
ended faulted s = fault s
ended halted s = halt s

unfoldable pub step_effect : State → State
step_effect s = ended (guest_step (rights s.machine) (own_registers s.machine) s.memory) s
