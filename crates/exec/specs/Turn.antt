-- One instruction, over what is lent: how it ends, and the registers and the memory that it leaves.
use Rattle.std.specs.Prelude.{ℕ, Bool, List}
use Rattle.isa.specs.declared.Instruction.{Instruction}
use Rattle.model.specs.declared.Registers.{Registers}
use Rattle.model.specs.Execute.{Move, moved, called, faulted, halted, perform, guest_step}
use Rattle.model.specs.Rights.{Rights}
use Rattle.exec.specs.declared.instruction.Stop.{Stop}
use Rattle.exec.specs.declared.instruction.Stop.TheVariants.{Moved, Called, Faulted, Halted}

pub record Turn : Type 0 where
  pub stop : Stop
  pub file : Registers
  pub memory : List ℕ

abbrev pub turn : Stop → Registers → List ℕ → Turn
turn stop file memory = record { stop = stop; file = file; memory = memory }

-- a register file from its three parts
abbrev pub file_of : List ℕ → ℕ → Bool → Registers
file_of r pc equal = record { r = r; pc = pc; equal = equal }

-- what a move leaves: a guest that does not move on stays as it is
unfoldable pub ends : Move → Registers → List ℕ → Turn
ends (moved next left) file memory = turn Moved next left
ends called file memory = turn Called file memory
ends faulted file memory = turn Faulted file memory
ends halted file memory = turn Halted file memory

unfoldable pub performs : Instruction → Rights → Registers → List ℕ → Turn
performs i rights file memory = ends (perform i rights file memory) file memory

unfoldable pub turn_of : Rights → Registers → List ℕ → Turn
turn_of rights file memory = ends (guest_step rights file memory) file memory
