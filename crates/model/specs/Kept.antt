-- What every step and every call keeps: soundness, and how many pages have an owner. Proved in `proofs/Kept.antt` and
-- `proofs/Owners.antt`.
use Rattle.std.specs.Prelude.{ℕ, ◌*◌, ◌≡◌, Bool, true, false, List, length, Option, None, Some}
use Rattle.model.specs.declared.VmId.{VmId}
use Rattle.model.specs.declared.PageRecord.{PageRecord}
use Rattle.model.specs.declared.Machine.{Machine}
use Rattle.model.specs.declared.Answer.TheVariants.{Done}
use Rattle.model.specs.Constants.{PAGE}
use Rattle.model.specs.Tests.{counted}
use Rattle.model.specs.State.{State, page, record_at}
use Rattle.model.specs.Shaped.{Shaped}
use Rattle.model.specs.Sound.{Sound}
use Rattle.model.specs.Call.{call_effect}
use Rattle.model.specs.Step.{step_effect}
use Rattle.model.specs.Entries.{check_of, run_of}
use Rattle.model.specs.Act.{Act, after_all}

-- Soundness.

-- a sound machine of the code's shape, with the memory that it wants
pub record Fit (s : State) : Type 0 where
  pub shaped : Shaped s.machine
  pub whole : length s.memory ≡ PAGE * s.machine.m
  pub sound : Sound s.machine

-- t is as fit as s was, and its memory as long
pub record Kept (s t : State) : Type 0 where
  pub fit : Fit t
  pub as_long : length t.memory ≡ length s.memory

-- whatever the instruction, the call, the registers and the memory
abbrev pub StepKeepsSound : Type 0
StepKeepsSound = (s : State) → Fit s → Kept s (step_effect s)

abbrev pub CallKeepsSound : Type 0
CallKeepsSound = (s : State) → Fit s → Kept s (call_effect s)

-- the check accepts it
pub record Accepted (s : State) : Type 0 where
  pub shaped : Shaped s.machine
  pub answers_0 : check_of s.machine s.memory ≡ Done

-- in terms of the entries: what the check accepts, it accepts after any list of steps and calls
abbrev pub AcceptedForEver : Type 0
AcceptedForEver = (s : State) → Accepted s → (acts : List Act) → Accepted (after_all acts s)

-- Owners.

unfoldable pub is_owned : Option VmId → Bool
is_owned None = false
is_owned (Some g) = true

-- page p has an owner
unfoldable pub owned_at : List PageRecord → ℕ → Bool
owned_at records p = is_owned (record_at records (page p)).owner

-- how many pages have an owner
unfoldable pub owned_pages : Machine → ℕ
owned_pages m = counted m.m (owned_at m.records)

-- of any machine and memory, sound or not, by whatever acts; and of a machine of the code's shape by a run
pub record OwnersKept (s : State) : Type 0 where
  pub over_acts : (acts : List Act) → owned_pages (after_all acts s).machine ≡ owned_pages s.machine
  pub over_a_run :
      Shaped s.machine → (budget : ℕ)
      → owned_pages (run_of s.machine s.memory budget).result.machine ≡ owned_pages s.machine
