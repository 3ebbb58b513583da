-- A run in parts: a run up to a call leaves what its steps leave, and two runs, one behind the other, what one run leaves with
-- what both used.
-- Assumes nothing.
use Prim.Native.Nat.{ℕ, zero, suc, ◌+◌, ◌-◌, ◌≤◌}
use mathlib.Core.Path.{◌≡◌, refl, sym, ap, ◌∙◌}
use mathlib.Core.Bool.{Bool, true, false, false≢true}
use mathlib.Core.List.{List}
use native.Mathlib.Numerals.{add-one}
use native.Mathlib.Omega.{arith}
use lib.ListN.{replicate}
use Rattle.model.specs.declared.Machine.{Machine}
use Rattle.model.specs.declared.RanToCall.{RanToCall}
use Rattle.model.specs.State.{State, state, is_normal}
use Rattle.model.specs.Answer.{answer_number, answers, is_done}
use Rattle.model.specs.Shaped.{Shaped}
use Rattle.model.specs.Step.{step_effect}
use Rattle.model.specs.Entries.{check_of, one_more, steps, run_of}
use Rattle.model.specs.Act.{step}
use Rattle.model.specs.Kept.{Accepted}
use Rattle.model.specs.RunSteps.{stepped}
use Rattle.model.specs.ToCall.{calls_next, leg_after_step, to_call, went_to_call, run_to_call_of}
use Rattle.model.proofs.Acts.{went_done, went_refused, steps_on, steps_off}
use Rattle.model.proofs.Entries.{is_done_lem}
use Rattle.model.proofs.Kept.{accepted_for_ever}
use Rattle.model.proofs.RunSteps.{run_is_its_steps}
use Rattle.model.proofs.Legs.{leg_off, leg_calls, leg_on, leg_done, refused_leg}
use Rattle.show.specs.Reached.{left_by, reached}

-- Of the steps alone.

steps_stay : (budget : ℕ) (s : State) → is_normal s.machine.mode ≡ false → (steps budget s).reached ≡ s
unfolding steps
steps_stay zero s off = refl
steps_stay (suc budget) s off = rw (steps_off budget s off)

steps_add : (a b : ℕ) (s : State) → (steps b (steps a s).reached).reached ≡ (steps (a + b) s).reached
unfolding steps one_more
steps_add zero b s = let same : 0 + b ≡ b = omega arith in rw same
steps_add (suc a) b s = go (is_normal s.machine.mode) refl (steps_add a b (step_effect s))
  where
    go : (normal : Bool) → is_normal s.machine.mode ≡ normal
        → (steps b (steps a (step_effect s)).reached).reached ≡ (steps (a + b) (step_effect s)).reached
        → (steps b (steps (suc a) s).reached).reached ≡ (steps (suc a + b) s).reached
    go true e rest =
        let next : suc a + b ≡ suc (a + b) = omega arith in
        rw (next, steps_on a s e, steps_on (a + b) s e) rest
    go false e rest =
        let next : suc a + b ≡ suc (a + b) = omega arith in
        rw (next, steps_off a s e, steps_off (a + b) s e) (steps_stay b s e)

leg_steps : (budget : ℕ) (s : State) → (to_call budget s).reached ≡ (steps (to_call budget s).count s).reached
unfolding to_call steps one_more leg_after_step
leg_steps zero s = refl
leg_steps (suc budget) s = go (is_normal s.machine.mode) (calls_next s) refl refl (leg_steps budget (step_effect s))
  where
    go : (normal calls : Bool) → is_normal s.machine.mode ≡ normal → calls_next s ≡ calls
        → let l = to_call budget (step_effect s) in
        l.reached ≡ (steps l.count (step_effect s)).reached
        → (to_call (suc budget) s).reached ≡ (steps (to_call (suc budget) s).count s).reached
    go false calls n e rest = rw (leg_off (suc budget) s n)
    go true true n e rest = rw (leg_calls budget s n e, steps_on 0 s n)
    go true false n e rest =
        let next = add-one (to_call budget (step_effect s)).count in
        rw (leg_on budget s n e, next, steps_on (to_call budget (step_effect s)).count s n) rest

-- What a run leaves: its steps where the check accepts, and else the state as it was.

module _ (m : Machine) (memory : List ℕ) where
  reached_done : is_done (check_of m memory) ≡ true → (used : ℕ) → reached m memory used ≡ (steps used (state m memory)).reached
  unfolding run_of
  reached_done e used = ap left_by (went_done (check_of m memory) used (state m memory) e)

  reached_refused : is_done (check_of m memory) ≡ false → (used : ℕ) → reached m memory used ≡ state m memory
  unfolding run_of
  reached_refused e used = ap left_by (went_refused (check_of m memory) used (state m memory) e)

  -- a run that has used nothing of its budget
  pub reached_none : (budget : ℕ) → state m memory ≡ reached m memory (budget - budget)
  unfolding steps
  reached_none budget =
      let none : budget - budget ≡ 0 = omega arith in
      rw none (go (is_done (check_of m memory)) refl)
    where
      go : (done : Bool) → is_done (check_of m memory) ≡ done → state m memory ≡ reached m memory 0
      go true e = sym (reached_done e 0)
      go false e = sym (reached_refused e 0)

-- the check of a state
unfoldable accepts : State → Bool
accepts s = is_done (check_of s.machine s.memory)

-- Behind a run that used so much:

module _ (first : Machine) (words : List ℕ) (used : ℕ) {m : Machine} {memory : List ℕ}
    (was : state m memory ≡ reached first words used) where
  -- what the check refuses stays as it was
  same_check : is_done (check_of first words) ≡ false → is_done (check_of m memory) ≡ false
  unfolding accepts
  same_check e = ap accepts (was ∙ reached_refused first words e used) ∙ e

  more_steps : is_done (check_of first words) ≡ true → (more : ℕ)
      → (steps more (state m memory)).reached ≡ reached first words (used + more)
  more_steps e more =
      ap (λ (s : State). (steps more s).reached) (was ∙ reached_done first words e used)
      ∙ steps_add used more (state first words)
      ∙ sym (reached_done first words e (used + more))

  -- a run up to a call
  leg_behind : (left : ℕ) → let w = run_to_call_of m memory left in
      state w.result.machine w.memory ≡ reached first words (used + w.result.count)
  unfolding run_to_call_of
  leg_behind left = go (is_done (check_of m memory)) (is_done (check_of first words)) refl refl
    where
      go : (done at_first : Bool) → is_done (check_of m memory) ≡ done → is_done (check_of first words) ≡ at_first
          → let w = run_to_call_of m memory left in
          state w.result.machine w.memory ≡ reached first words (used + w.result.count)
      go false at_first e f =
          let same : used + 0 ≡ used = omega arith in
          rw (refused_leg m memory left e, same) was
      go true false e f = absurd (false≢true (sym (same_check f) ∙ e))
      go true true e f =
          let l = to_call left (state m memory) in
          let goes : run_to_call_of m memory left ≡ went_to_call (check_of m memory) l = leg_done _ left (state m memory) e in
          rw goes (leg_steps left (state m memory) ∙ more_steps f l.count)

  pub leg_reaches : {budget left : ℕ} {r : RanToCall} {next : List ℕ} → used ≡ budget - left → left ≤ budget
      → record { result = r; memory = next } ≡ run_to_call_of m memory left
      → r.count ≤ left
      → state r.machine next ≡ reached first words (budget - (left - r.count))
  leg_reaches {budget} {left} {r} {next} at within e taken =
      let sum : used + r.count ≡ budget - (left - r.count) = omega (arith, at, within, taken) in
      let goes : state r.machine next ≡ reached first words (used + r.count) = rw (← e) at (leg_behind left) in
      goes ∙ ap (reached first words) sum

  -- a run
  run_behind : Shaped first → (more : ℕ) → reached m memory more ≡ reached first words (used + more)
  unfolding accepts stepped check_of answers answer_number
  run_behind shaped more = go (is_done (check_of first words)) refl
    where
      go : (done : Bool) → is_done (check_of first words) ≡ done → reached m memory more ≡ reached first words (used + more)
      go false f =
          reached_refused m memory (same_check f) more
          ∙ was
          ∙ reached_refused first words f used
          ∙ sym (reached_refused first words f (used + more))
      go true f =
          let ok : Accepted (state first words) = record { shaped = shaped; answers_0 = is_done_lem (check_of first words) f } in
          let count = (run_of first words used).result.count in
          let after = accepted_for_ever (state first words) ok (replicate count step) in
          let t : state m memory ≡ stepped count (state first words) = was ∙ (run_is_its_steps (state first words) ok used).is_stepped in
          let still_done : is_done (check_of m memory) ≡ true = ap accepts t ∙ ap is_done after.answers_0 in
          reached_done m memory still_done more ∙ more_steps f more

  pub run_reaches : {budget left rest : ℕ} → Shaped first → used ≡ budget - left → left ≤ budget → rest ≤ left
      → {t : State} → t ≡ reached m memory (left - rest) → t ≡ reached first words (budget - rest)
  run_reaches {budget} {left} {rest} shaped at within less e =
      let sum : used + (left - rest) ≡ budget - rest = omega (arith, at, within, less) in
      e ∙ run_behind shaped (left - rest) ∙ ap (reached first words) sum
