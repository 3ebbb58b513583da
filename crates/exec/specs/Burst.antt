-- The inner loop: a guest's instructions until one does not move on, or the budget ends.
use Rattle.std.specs.Prelude.{ℕ, zero, suc, List}
use Rattle.model.specs.declared.Registers.{Registers}
use Rattle.model.specs.Rights.{Rights}
use Rattle.exec.specs.declared.instruction.Stop.{Stop}
use Rattle.exec.specs.declared.instruction.Stop.TheVariants.{Moved, Called, Faulted, Halted}
use Rattle.exec.specs.Turn.{Turn, turn, turn_of}

-- how the last instruction ended, what it left, and what is left of the budget
pub record Burst : Type 0 where
  pub last : Turn
  pub left : ℕ

abbrev pub burst : Turn → ℕ → Burst
burst last left = record { last = last; left = left }

-- on with the rest of the budget if the guest moved on
unfoldable pub go_on : Stop → Turn → ℕ → (Registers → List ℕ → Burst) → Burst
go_on Moved t left rest = rest t.file t.memory
go_on Called t left rest = burst t left
go_on Faulted t left rest = burst t left
go_on Halted t left rest = burst t left

unfoldable pub burst_of : Rights → ℕ → Registers → List ℕ → Burst
burst_of rights zero file memory = burst (turn Moved file memory) 0
burst_of rights (suc budget) file memory =
    go_on (turn_of rights file memory).stop (turn_of rights file memory) budget (burst_of rights budget)
