-- A run is its steps. Proved in `proofs/RunSteps.antt`.
use Rattle.std.specs.Prelude.{ℕ, ◌≤◌, ◌<◌, ◌≡◌, true, false, replicate}
use Rattle.model.specs.State.{State, state, is_normal}
use Rattle.model.specs.Answer.{is_done}
use Rattle.model.specs.Entries.{Went, run_of}
use Rattle.model.specs.Kept.{Accepted}
use Rattle.model.specs.Act.{step, entry_of, after_all}

-- the state after so many steps, each by the entry that takes one
unfoldable pub stepped : ℕ → State → State
stepped count s = after_all (replicate count step) s

-- what a run left is what its count of steps leaves; each of them was taken in mode normal and answered 0; and it stopped
-- short of the budget only where the mode is no longer normal
pub record Steps (s : State) (budget : ℕ) (a : Went) : Type 0 where
  pub answers_0 : is_done a.result.answer ≡ true
  pub is_stepped : state a.result.machine a.memory ≡ stepped a.result.count s
  pub within_budget : a.result.count ≤ budget
  pub each_normal : (i : ℕ) → i < a.result.count → is_normal (stepped i s).machine.mode ≡ true
  pub each_answers_0 : (i : ℕ) → i < a.result.count → is_done (entry_of step (stepped i s)).result.answer ≡ true
  pub stops_short : a.result.count < budget → is_normal a.result.machine.mode ≡ false

abbrev pub RunIsItsSteps : Type 0
RunIsItsSteps = (s : State) → Accepted s → (budget : ℕ) → Steps s budget (run_of s.machine s.memory budget)
