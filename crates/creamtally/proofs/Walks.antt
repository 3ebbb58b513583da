-- Steps with what is left of the budget are the model's runs; what a run of either kind leaves; and a step is a run of one.
-- Assumes nothing.
use Rattle.model.specs.ToCall.{made, Leg, leg, leg_after_step, calls_next, to_call, WentToCall, went_to_call, run_to_call_of}
use Rattle.std.specs.Prelude.{Option, None, Some}
use Rattle.model.specs.declared.MadeCall.{MadeCall}
use Prim.Native.Nat.{ℕ, zero, suc, ◌+◌, ◌-◌, ◌*◌, ◌≤◌}
use mathlib.Core.Path.{◌≡◌, refl, sym, ap, ◌∙◌}
use mathlib.Core.Bool.{Bool, true, false, false≢true}
use mathlib.Core.List.{List}
use native.Mathlib.Omega.{arith}
use lib.ListN.{length}
use Rattle.isa.specs.Tests.{◌and◌}
use Rattle.model.specs.declared.Machine.{Machine}
use Rattle.model.specs.declared.Answer.{Answer}
use Rattle.model.specs.declared.Answer.TheVariants.{Done, Stopped}
use Rattle.model.specs.Constants.{PAGE}
use Rattle.model.specs.State.{State, state, argument, is_normal}
use Rattle.model.specs.Answer.{answer_number, answers, is_done}
use Rattle.model.specs.Sound.{sound}
use Rattle.model.specs.Step.{step_effect}
use Rattle.model.specs.Entries.{check_of, then_mode, acted, acted_by, step_of, one_more, steps, went_by, run_of}
use Rattle.isa.proofs.Tests.{not_both}
use Rattle.model.proofs.Sound.{holds_sound}
use Rattle.model.proofs.Entries.{done_memory, done_sound}
use Rattle.model.proofs.Acts.{then_mode_parts, steps_on, steps_off, went_done, went_refused}
use Rattle.model.proofs.Legs.{leg_off, leg_calls, leg_on, leg_done, leg_refused}
use Rattle.runs.specs.Advance.{Rest, rest, advance_of}
use Rattle.creamtally.specs.Left.{walk_of}
use Rattle.creamtally.proofs.Answers.{mode_unasked, mode_normal, mode_stopped, acts, refuses}

-- A leg of either kind: no call is named where the steps are not wanted up to one.

unfoldable pub leg_of : Bool → ℕ → State → Leg
leg_of false budget s = leg (steps budget s).reached (steps budget s).count None
leg_of true budget s = to_call budget s

-- Steps and a leg go on alike, while the mode is normal and up to a call.

module _ (onlyToCall : Bool) (budget : ℕ) (s : State) where
  advance_none : advance_of onlyToCall 0 s ≡ rest s 0 None
  unfolding advance_of
  advance_none = refl

  advance_off : is_normal s.machine.mode ≡ false → advance_of onlyToCall (suc budget) s ≡ rest s (suc budget) None
  unfolding advance_of
  advance_off e = rw (e, advance_of)

  advance_calls : is_normal s.machine.mode ≡ true → onlyToCall and calls_next s ≡ true
      → advance_of onlyToCall (suc budget) s ≡ rest (step_effect s) budget (Some (made s.machine.current (argument s.machine 0)))
  unfolding advance_of
  advance_calls normal e = rw (normal, e, advance_of)

  advance_on : is_normal s.machine.mode ≡ true → onlyToCall and calls_next s ≡ false
      → advance_of onlyToCall (suc budget) s ≡ advance_of onlyToCall budget (step_effect s)
  unfolding advance_of
  advance_on normal e = rw (normal, e, advance_of)

either_none : (onlyToCall : Bool) (s : State) → leg_of onlyToCall 0 s ≡ leg s 0 None
unfolding leg_of steps to_call
either_none false s = refl
either_none true s = refl

either_off : (onlyToCall : Bool) (budget : ℕ) (s : State) → is_normal s.machine.mode ≡ false
    → leg_of onlyToCall budget s ≡ leg s 0 None
unfolding leg_of steps
either_off false zero s e = refl
either_off false (suc budget) s e = rw (steps_off budget s e)
either_off true budget s e = leg_off budget s e

either_calls : (onlyToCall : Bool) (budget : ℕ) (s : State) → is_normal s.machine.mode ≡ true → onlyToCall and calls_next s ≡ true
    → leg_of onlyToCall (suc budget) s ≡ leg (step_effect s) 1 (Some (made s.machine.current (argument s.machine 0)))
unfolding leg_of ◌and◌
either_calls false budget s normal e = absurd (false≢true e)
either_calls true budget s normal e = leg_calls budget s normal e

either_on : (onlyToCall : Bool) (budget : ℕ) (s : State) → is_normal s.machine.mode ≡ true → onlyToCall and calls_next s ≡ false
    → leg_of onlyToCall (suc budget) s ≡ leg_after_step (leg_of onlyToCall budget (step_effect s))
unfolding leg_of leg_after_step one_more ◌and◌
either_on false budget s normal e = rw (steps_on budget s normal)
either_on true budget s normal e = leg_on budget s normal e

-- So both come to the same place and the same call, and what is left and what was taken are the budget.

record Alike (budget : ℕ) (l : Leg) (r : Rest) : Type 0 where
  same_reached : r.reached ≡ l.reached
  same_call : r.call ≡ l.call
  adds_up : r.left + l.count ≡ budget

alike_more : (budget : ℕ) (l : Leg) (r : Rest) → Alike budget l r → Alike (suc budget) (leg_after_step l) r
unfolding leg_after_step
alike_more budget l r a =
    record { same_reached = a.same_reached; same_call = a.same_call; adds_up = omega (arith, a.adds_up) }

alike : (onlyToCall : Bool) (budget : ℕ) (s : State) → Alike budget (leg_of onlyToCall budget s) (advance_of onlyToCall budget s)
alike onlyToCall zero s =
    rw (either_none onlyToCall s, advance_none onlyToCall 0 s) (record { same_reached = refl; same_call = refl; adds_up = refl })
alike onlyToCall (suc budget) s =
    go (is_normal s.machine.mode) (onlyToCall and calls_next s) refl refl (alike onlyToCall budget (step_effect s))
  where
    go : (normal calls : Bool) → is_normal s.machine.mode ≡ normal → onlyToCall and calls_next s ≡ calls
        → Alike budget (leg_of onlyToCall budget (step_effect s)) (advance_of onlyToCall budget (step_effect s))
        → Alike (suc budget) (leg_of onlyToCall (suc budget) s) (advance_of onlyToCall (suc budget) s)
    go false calls n e a =
        rw (either_off onlyToCall (suc budget) s n, advance_off onlyToCall budget s n)
        (record { same_reached = refl; same_call = refl; adds_up = omega arith })
    go true true n e a =
        rw (either_calls onlyToCall budget s n e, advance_calls onlyToCall budget s n e)
        (record { same_reached = refl; same_call = refl; adds_up = omega arith })
    go true false n e a =
        rw (either_on onlyToCall budget s n e, advance_on onlyToCall budget s n e) (alike_more budget _ _ a)

-- what steps leave tells the leg
module _ (onlyToCall : Bool) (budget : ℕ) (s : State) {after : State} {left : ℕ} {call : Option MadeCall}
    (did : rest after left call ≡ advance_of onlyToCall budget s) where
  told_leg : Alike budget (leg_of onlyToCall budget s) (rest after left call)
  told_leg = rw did (alike onlyToCall budget s)

  pub left_within : left ≤ budget
  left_within = omega (arith, told_leg.adds_up)

  leg_left : leg after (budget - left) call ≡ leg_of onlyToCall budget s
  leg_left =
      let count : budget - left ≡ (leg_of onlyToCall budget s).count = omega (arith, told_leg.adds_up) in
      λ i. leg (told_leg.same_reached i) (count i) (told_leg.same_call i)

-- What a run of either kind leaves.

went_leg : (onlyToCall : Bool) (m : Machine) (memory : List ℕ) (budget : ℕ) → is_done (check_of m memory) ≡ true
    → walk_of onlyToCall m memory budget ≡ went_to_call (check_of m memory) (leg_of onlyToCall budget (state m memory))
unfolding walk_of run_of run_to_call_of leg_of
went_leg false m memory budget e = rw (went_done (check_of m memory) budget (state m memory) e)
went_leg true m memory budget e = leg_done (check_of m memory) budget (state m memory) e

went_nowhere : (onlyToCall : Bool) (m : Machine) (memory : List ℕ) (budget : ℕ) → is_done (check_of m memory) ≡ false
    → walk_of onlyToCall m memory budget ≡ went_to_call (check_of m memory) (leg (state m memory) 0 None)
unfolding walk_of run_of run_to_call_of
went_nowhere false m memory budget e = rw (went_refused (check_of m memory) budget (state m memory) e)
went_nowhere true m memory budget e = leg_refused (check_of m memory) budget (state m memory) e

-- where the check answers 0 and the mode is normal, the steps can begin
pub can_begin : (m : Machine) (memory : List ℕ) {answer : Answer} → answer ≡ check_of m memory → is_done (then_mode answer m.mode) ≡ true
    → (sound m ≡ true) × (is_normal m.mode ≡ true) × (length memory ≡ PAGE * m.m)
can_begin m memory {answer} e goes =
    let both = then_mode_parts answer m.mode goes in
    let done : check_of m memory ≡ Done = sym e ∙ both.0 in
    (holds_sound m (done_sound m memory done), both.1, done_memory m memory done)

module _ (onlyToCall : Bool) (m : Machine) (memory : List ℕ) (budget : ℕ) (answer : Answer) (e : answer ≡ check_of m memory) where
  pub walk_still : is_done (then_mode answer m.mode) ≡ false
      → went_to_call answer (leg (state m memory) 0 None) ≡ walk_of onlyToCall m memory budget
  unfolding answer_number answers
  walk_still stays = rw e (sym (go (is_done answer) (is_normal m.mode) refl refl))
    where
      go : (done normal : Bool) → is_done answer ≡ done → is_normal m.mode ≡ normal
          → walk_of onlyToCall m memory budget ≡ went_to_call (check_of m memory) (leg (state m memory) 0 None)
      go false normal d n = went_nowhere onlyToCall m memory budget (rw e at d)
      go true false d n =
          went_leg onlyToCall m memory budget (rw e at d)
          ∙ ap (went_to_call (check_of m memory)) (either_off onlyToCall budget (state m memory) n)
      go true true d n = absurd (not_both (ap is_done (sym (mode_normal answer m.mode d n))) stays)

  pub walk_goes : is_done (then_mode answer m.mode) ≡ true → {after : State} {left : ℕ} {call : Option MadeCall}
      → rest after left call ≡ advance_of onlyToCall budget (state m memory)
      → went_to_call answer (leg after (budget - left) call) ≡ walk_of onlyToCall m memory budget
  unfolding answer_number answers
  walk_goes goes did =
      ap (went_to_call answer) (leg_left onlyToCall budget (state m memory) did)
      ∙ rw e (sym (went_leg onlyToCall m memory budget (ap is_done (sym e ∙ (then_mode_parts answer m.mode goes).0))))

-- A step is a run of one, but for the answer of a machine that has stopped.

run_of_one : (answer : Answer) (s : State) (done normal : Bool) → is_done answer ≡ done → is_normal s.machine.mode ≡ normal →
    acted (then_mode answer s.machine.mode) (state (went_by answer 1 s).result.machine (went_by answer 1 s).memory)
    ≡ acted_by (then_mode answer s.machine.mode) step_effect s
unfolding answer_number answers one_more steps
run_of_one answer s false normal d n =
    rw (went_refused answer 1 s d, ← mode_unasked answer s.machine.mode d) (refuses answer step_effect s d)
run_of_one answer s true true d n =
    rw (went_done answer 1 s d, steps_on 0 s n, ← mode_normal answer s.machine.mode d n) (acts Done step_effect s refl)
run_of_one answer s true false d n =
    rw (went_done answer 1 s d, steps_off 0 s n, ← mode_stopped answer s.machine.mode d n) (refuses Stopped step_effect s refl)

pub one_step : (m : Machine) (memory : List ℕ) {w : WentToCall} {told : Answer} → w ≡ walk_of false m memory 1
    → told ≡ then_mode w.result.answer m.mode → acted told (state w.result.machine w.memory) ≡ step_of m memory
unfolding walk_of went_by run_of step_of
one_step m memory did said =
    rw (said, did) (run_of_one (check_of m memory) (state m memory) (is_done (check_of m memory)) (is_normal m.mode) refl refl)
