-- A run is its steps: by induction on the budget, each step from a state that the check accepts.
use Prim.Native.Nat.{ℕ, zero, suc, ◌+◌, ◌≤◌, ◌<◌}
use mathlib.Core.Path.{◌≡◌, refl, sym, ap, ◌∙◌}
use mathlib.Core.Bool.{Bool, true, false}
use native.Mathlib.Numerals.{add-one}
use native.Mathlib.Omega.{arith}
use lib.ListN.{replicate}
use Rattle.model.specs.declared.Answer.TheVariants.{Done}
use Rattle.model.specs.Answer.{answer_number, answers}
use Rattle.model.specs.State.{State, is_normal}
use Rattle.model.specs.Entries.{Progress, still, one_more, steps, went, run_of}
use Rattle.model.specs.Act.{step, after, after_all}
use Rattle.model.specs.Kept.{Accepted}
use Rattle.model.specs.RunSteps.{stepped, RunIsItsSteps}
use Rattle.model.proofs.Acts.{effect_of, after_done, accepted_done, went_done, steps_on, steps_off}
use Rattle.model.proofs.Kept.{act_keeps_accepted, accepted_for_ever}

-- what is so of steps taken one behind the other, whatever ends them
pub record Along (s : State) (budget count : ℕ) (reached : State) : Type 0 where
  pub is_stepped : reached ≡ stepped count s
  pub within_budget : count ≤ budget
  pub each_normal : (i : ℕ) → i < count → is_normal (stepped i s).machine.mode ≡ true

-- no step
pub along_none : (s : State) (budget : ℕ) → Along s budget 0 s
unfolding after_all stepped
along_none s budget = record { is_stepped = refl; within_budget = omega arith; each_normal = λ i b. absurd (omega arith) }

-- one more, in front
pub along_more : (s : State) {budget count : ℕ} {reached : State} → is_normal s.machine.mode ≡ true
    → Along (after step s) budget count reached → Along s (suc budget) (count + 1) reached
unfolding after_all stepped
along_more s {count = count} normal rest =
    record {
      is_stepped = rest.is_stepped ∙ ap (λ (c : ℕ). stepped c s) (sym (add-one count));
      within_budget = omega (arith, rest.within_budget);
      each_normal = each;
    }
  where
    each : (i : ℕ) → i < count + 1 → is_normal (stepped i s).machine.mode ≡ true
    each zero b = normal
    each (suc i) b = rest.each_normal i (omega arith)

-- what is proved of the steps within a budget
record Taken (s : State) (budget : ℕ) (p : Progress) : Type 0 where
  along : Along s budget p.count p.reached
  stops_short : p.count < budget → is_normal p.reached.machine.mode ≡ false

taken_none : (s : State) (budget : ℕ) → (0 < budget → is_normal s.machine.mode ≡ false) → Taken s budget (still s)
taken_none s budget h = record { along = along_none s budget; stops_short = h }

taken_more : (s : State) (budget : ℕ) (p : Progress) → is_normal s.machine.mode ≡ true
    → Taken (after step s) budget p → Taken s (suc budget) (one_more p)
unfolding one_more
taken_more s budget p normal rest =
    record { along = along_more s normal rest.along; stops_short = λ h. rest.stops_short (omega arith) }

-- a step that the run takes is an act
steps_after : (budget : ℕ) (s : State) → Accepted s → is_normal s.machine.mode ≡ true
    → steps (suc budget) s ≡ one_more (steps budget (after step s))
unfolding effect_of
steps_after budget s ok normal =
    steps_on budget s normal
    ∙ ap (λ (t : State). one_more (steps budget t)) (sym (after_done step s (accepted_done step s ok.answers_0 normal)))

taken : (budget : ℕ) (s : State) → Accepted s → Taken s budget (steps budget s)
unfolding steps
taken zero s ok = taken_none s 0 (λ h. absurd (omega arith))
taken (suc budget) s ok =
    go (is_normal s.machine.mode) refl (taken budget (after step s) (act_keeps_accepted step s ok))
  where
    go : (b : Bool) → is_normal s.machine.mode ≡ b → Taken (after step s) budget (steps budget (after step s))
        → Taken s (suc budget) (steps (suc budget) s)
    go true normal rest = rw (steps_after budget s ok normal) (taken_more s budget _ normal rest)
    go false stopped rest = rw (steps_off budget s stopped) (taken_none s (suc budget) (λ h. stopped))

-- what a run leaves where the check accepts
pub run_goes : (s : State) → Accepted s → (budget : ℕ) → run_of s.machine s.memory budget ≡ went Done (steps budget s)
unfolding answer_number answers run_of
run_goes s ok budget = rw ok.answers_0 (went_done Done budget s refl)

pub run_is_its_steps : RunIsItsSteps
unfolding answer_number answers stepped
run_is_its_steps s ok budget =
    let all = taken budget s ok in
    rw (run_goes s ok budget) (record {
      answers_0 = refl;
      is_stepped = all.along.is_stepped;
      within_budget = all.along.within_budget;
      each_normal = all.along.each_normal;
      each_answers_0 = λ i b.
          accepted_done step (stepped i s) (accepted_for_ever s ok (replicate i step)).answers_0 (all.along.each_normal i b);
      stops_short = all.stops_short;
    })
