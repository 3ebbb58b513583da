-- A refusal changes nothing: what each entry answers, and what it leaves where the answer is not 0.
use Prim.Native.Nat.{ℕ, ◌*◌}
use mathlib.Core.Path.{◌≡◌, refl}
use mathlib.Core.Bool.{Bool, true, false}
use mathlib.Core.List.{List, []}
use lib.ListN.{length}
use lib.Dec.{eqb}
use borrow.Author.Tests.{eqb-true, eqb-false}
use Rattle.model.specs.declared.VmId.{VmId}
use Rattle.model.specs.declared.Machine.{Machine}
use Rattle.model.specs.declared.Answer.{Answer}
use Rattle.model.specs.Constants.{PAGE}
use Rattle.model.specs.Answer.{answer_number, answers, is_done}
use Rattle.model.specs.State.{State, state, is_normal}
use Rattle.model.specs.Sound.{sound}
use Rattle.model.specs.Call.{call_effect}
use Rattle.model.specs.Step.{step_effect}
use Rattle.model.specs.Entries.{judged, check_of, then_mode, acted_by, step_of, call_of, went_by, run_of, message_of}
use Rattle.model.specs.Refusals.{Checked, CheckedWithMode, Acts, Runs, RefusalChangesNothing}
use Rattle.isa.proofs.Tests.{cannot_pass}
use Rattle.model.proofs.Acts.{acted_refused, went_refused}

-- Answers.

-- the answer of the check, by its two tests
checked : (m : Machine) (memory : List ℕ) → Checked m memory (answer_number (check_of m memory))
unfolding answer_number judged check_of
checked m memory = go (eqb (length memory) (PAGE * m.m)) (sound m) refl refl
  where
    go : (fits isSound : Bool) → eqb (length memory) (PAGE * m.m) ≡ fits → sound m ≡ isSound
        → Checked m memory (answer_number (judged fits isSound))
    go false isSound p q = Checked.wrong_memory refl (eqb-false _ _ p)
    go true false p q = Checked.unsound refl (eqb-true _ _ p) q
    go true true p q = Checked.done refl (eqb-true _ _ p) q

-- the answer of step and call, by its three
checked_with_mode : (m : Machine) (memory : List ℕ) → CheckedWithMode m memory (answer_number (then_mode (check_of m memory) m.mode))
unfolding answer_number answers judged check_of then_mode
checked_with_mode m memory = go (eqb (length memory) (PAGE * m.m)) (sound m) (is_normal m.mode) refl refl refl
  where
    go : (fits isSound normal : Bool) → eqb (length memory) (PAGE * m.m) ≡ fits → sound m ≡ isSound → is_normal m.mode ≡ normal
        → CheckedWithMode m memory (answer_number (then_mode (judged fits isSound) m.mode))
    go false isSound normal p q r = CheckedWithMode.wrong_memory refl (eqb-false _ _ p)
    go true false normal p q r = CheckedWithMode.unsound refl (eqb-true _ _ p) q
    go true true true p q r = CheckedWithMode.done (rw r) (eqb-true _ _ p) q r
    go true true false p q r = CheckedWithMode.stopped (rw r) (eqb-true _ _ p) q r

-- an answer whose number is not 0
pub not_done : (answer : Answer) → (answer_number answer ≡ 0 → ⊥) → is_done answer ≡ false
unfolding answers
not_done answer h = cannot_pass (λ e. h (eqb-true _ _ e))

-- Entries.

-- step and call, whatever their effect
acts : (m : Machine) (memory : List ℕ) (effect : State → State)
    → Acts m memory (acted_by (then_mode (check_of m memory) m.mode) effect (state m memory))
unfolding acted_by
acts m memory effect =
    record {
      answers = checked_with_mode m memory;
      refuses = λ h.
          let left = acted_refused _ effect (state m memory) (not_done _ h) in
          record { as_given = λ i. (left i).result.machine; not_moved = λ i. (left i).memory };
    }

runs : (m : Machine) (memory : List ℕ) (budget : ℕ) → Runs m memory (run_of m memory budget)
unfolding went_by run_of
runs m memory budget =
    record {
      answers = checked m memory;
      refuses = λ h.
          let left = went_refused _ budget (state m memory) (not_done _ h) in
          record { as_given = λ i. (left i).result.machine; not_moved = λ i. (left i).memory };
      counts_nothing = λ h. let left = went_refused _ budget (state m memory) (not_done _ h) in λ i. (left i).result.count;
    }

no_message : (m : Machine) (memory : List ℕ) (g : VmId) → (answer_number (check_of m memory) ≡ 0 → ⊥) → message_of m memory g ≡ []
unfolding message_of
no_message m memory g h = rw (not_done (check_of m memory) h)

pub refusal_changes_nothing : (m : Machine) (memory : List ℕ) → RefusalChangesNothing m memory
unfolding step_of call_of
refusal_changes_nothing m memory =
    record {
      check = checked m memory;
      step = acts m memory step_effect;
      call = acts m memory call_effect;
      run = runs m memory;
      message = no_message m memory;
    }
