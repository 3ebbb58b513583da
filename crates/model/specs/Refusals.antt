-- What a refusal is, entry by entry: only the entry's own numbers come out, each exactly when it should, and where that is not
-- 0 nothing has changed. Proved in `proofs/Refusals.antt`.
use Rattle.std.specs.Prelude.{ℕ, ◌*◌, ◌≡◌, true, false, List, [], length}
use Rattle.model.specs.declared.VmId.{VmId}
use Rattle.model.specs.declared.Machine.{Machine}
use Rattle.model.specs.Constants.{PAGE}
use Rattle.model.specs.Answer.{answer_number}
use Rattle.model.specs.State.{is_normal}
use Rattle.model.specs.Sound.{sound}
use Rattle.model.specs.Entries.{Acted, Went, check_of, step_of, call_of, run_of, message_of}

-- The numbers, each with when it is answered.

abbrev pub WholeMemory : Machine → List ℕ → Type 0
WholeMemory m memory = length memory ≡ PAGE * m.m

-- of check and run
pub data Checked (m : Machine) (memory : List ℕ) (number : ℕ) : Type 0 where
  done : number ≡ 0 → WholeMemory m memory → sound m ≡ true → Checked m memory number
  wrong_memory : number ≡ 1 → (WholeMemory m memory → ⊥) → Checked m memory number
  unsound : number ≡ 2 → WholeMemory m memory → sound m ≡ false → Checked m memory number

-- of step and call
pub data CheckedWithMode (m : Machine) (memory : List ℕ) (number : ℕ) : Type 0 where
  done : number ≡ 0 → WholeMemory m memory → sound m ≡ true → is_normal m.mode ≡ true → CheckedWithMode m memory number
  wrong_memory : number ≡ 1 → (WholeMemory m memory → ⊥) → CheckedWithMode m memory number
  unsound : number ≡ 2 → WholeMemory m memory → sound m ≡ false → CheckedWithMode m memory number
  stopped : number ≡ 3 → WholeMemory m memory → sound m ≡ true → is_normal m.mode ≡ false → CheckedWithMode m memory number

-- Refusals.

-- what is left is what was given
pub record Untouched (m : Machine) (memory : List ℕ) (left : Machine) (leftMemory : List ℕ) : Type 0 where
  pub as_given : left ≡ m
  pub not_moved : leftMemory ≡ memory

-- step and call
pub record Acts (m : Machine) (memory : List ℕ) (a : Acted) : Type 0 where
  pub answers : CheckedWithMode m memory (answer_number a.result.answer)
  pub refuses : (answer_number a.result.answer ≡ 0 → ⊥) → Untouched m memory a.result.machine a.memory

pub record Runs (m : Machine) (memory : List ℕ) (a : Went) : Type 0 where
  pub answers : Checked m memory (answer_number a.result.answer)
  pub refuses : (answer_number a.result.answer ≡ 0 → ⊥) → Untouched m memory a.result.machine a.memory
  pub counts_nothing : (answer_number a.result.answer ≡ 0 → ⊥) → a.result.count ≡ 0

-- of every machine and memory, whatever the budget and the guest
pub record RefusalChangesNothing (m : Machine) (memory : List ℕ) : Type 0 where
  pub check : Checked m memory (answer_number (check_of m memory))
  pub step : Acts m memory (step_of m memory)
  pub call : Acts m memory (call_of m memory)
  pub run : (budget : ℕ) → Runs m memory (run_of m memory budget)
  pub message : (g : VmId) → (answer_number (check_of m memory) ≡ 0 → ⊥) → message_of m memory g ≡ []
