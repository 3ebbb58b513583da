-- A run up to a call is its steps, by induction on the budget; a run is such legs, one after the other, and so are its lines; and
-- the bench's worked cases, which antt computes.
-- Assumes nothing.
use Rattle.model.specs.ToCall.{made, is_called, calls_next, Leg, leg, leg_after_step, to_call, went_to_call, went_to_call_by, run_to_call_of, line_of, lines_from}
use Rattle.std.specs.Prelude.{Option, None, Some}
use Rattle.model.specs.declared.MadeCall.{MadeCall}
use Prim.Native.Nat.{ℕ, zero, suc, ◌+◌, ◌-◌, ◌<◌}
use mathlib.Core.Path.{◌≡◌, refl, sym, ap, ◌∙◌}
use mathlib.Core.Bool.{Bool, true, false, false≢true}
use mathlib.Core.List.{[], ◌∷◌}
use native.Mathlib.Numerals.{add-one}
use native.Mathlib.Omega.{arith}
use lib.ListN.{replicate}
use Rattle.model.specs.declared.VmId.{VmId}
use Rattle.model.specs.declared.Answer.{Answer}
use Rattle.model.specs.declared.Answer.TheVariants.{Done}
use Rattle.model.specs.State.{State, state, argument, is_normal}
use Rattle.model.specs.Answer.{answer_number, answers, is_done}
use Rattle.model.specs.Step.{step_effect}
use Rattle.model.specs.Entries.{check_of, one_more, steps, went_by, run_of}
use Rattle.model.specs.Act.{step, after, after_all}
use Rattle.model.specs.Kept.{Accepted}
use Rattle.model.specs.RunSteps.{stepped}
use Rattle.model.specs.PCases.{box, owned, ownerless, words}
use Rattle.model.specs.Legs.{EndsInCall, LegIsItsSteps, LegRefused, LinesEnd, line_for, ThenRest, LegThenRest, two_guests, programs, shown, line, BenchExample}
use Rattle.model.proofs.Acts.{effect_of, after_done, accepted_done, steps_on}
use Rattle.model.proofs.Kept.{act_keeps_accepted, accepted_for_ever}
use Rattle.model.proofs.RunSteps.{Along, along_none, along_more}
use Rattle.model.proofs.Computing.{entries_compute}

-- What is left: the leg where the answer is 0, else the state as it was.

pub leg_done : (answer : Answer) (budget : ℕ) (s : State) → is_done answer ≡ true
    → went_to_call_by answer budget s ≡ went_to_call answer (to_call budget s)
unfolding went_to_call_by
leg_done answer budget s e = rw e

pub leg_refused : (answer : Answer) (budget : ℕ) (s : State) → is_done answer ≡ false
    → went_to_call_by answer budget s ≡ went_to_call answer (leg s 0 None)
unfolding went_to_call_by
leg_refused answer budget s e = rw e

-- A leg ends where the mode is not normal, and at a call; else it goes on.

pub leg_off : (budget : ℕ) (s : State) → is_normal s.machine.mode ≡ false → to_call budget s ≡ leg s 0 None
unfolding to_call
leg_off zero s e = refl
leg_off (suc budget) s e = rw (e, to_call)

module _ (budget : ℕ) (s : State) (normal : is_normal s.machine.mode ≡ true) where
  pub leg_calls : calls_next s ≡ true → to_call (suc budget) s ≡ leg (step_effect s) 1 (Some (made s.machine.current (argument s.machine 0)))
  unfolding to_call
  leg_calls e = rw (normal, e, to_call)

  pub leg_on : calls_next s ≡ false → to_call (suc budget) s ≡ leg_after_step (to_call budget (step_effect s))
  unfolding to_call
  leg_on e = rw (normal, e, to_call)

-- A leg is its steps.

-- the call that the next step is, and that the last of so many steps was
unfoldable call_at : State → Option MadeCall
call_at s = elim (calls_next s) [ true ↦ Some (made s.machine.current (argument s.machine 0)) | false ↦ None ]

unfoldable last_call : ℕ → State → Option MadeCall
last_call zero s = None
last_call (suc k) s = call_at (stepped k s)

call_at_lem : (s : State) → calls_next s ≡ true → call_at s ≡ Some (made s.machine.current (argument s.machine 0))
unfolding call_at
call_at_lem s e = rw (e, call_at)

no_call_at : (s : State) → calls_next s ≡ false → call_at s ≡ None
unfolding call_at
no_call_at s e = rw (e, call_at)

-- what is proved of the leg within a budget
record Gone (s : State) (budget : ℕ) (l : Leg) : Type 0 where
  along : Along s budget l.count l.reached
  no_call_before : (i : ℕ) → i + 1 < l.count → calls_next (stepped i s) ≡ false
  names_last : l.call ≡ last_call l.count s
  stops_short : l.call ≡ None → l.count < budget → is_normal l.reached.machine.mode ≡ false

-- no step
gone_none : (s : State) (budget : ℕ) → (0 < budget → is_normal s.machine.mode ≡ false) → Gone s budget (leg s 0 None)
unfolding last_call
gone_none s budget h =
    record {
      along = along_none s budget;
      no_call_before = λ i b. absurd (omega arith);
      names_last = refl;
      stops_short = λ none b. h b;
    }

module _ (s : State) (budget : ℕ) (normal : is_normal s.machine.mode ≡ true) where
  -- a call
  gone_call : calls_next s ≡ true → Gone s (suc budget) (leg (after step s) 1 (Some (made s.machine.current (argument s.machine 0))))
  unfolding after_all stepped last_call
  gone_call e =
      record {
        along = along_more s normal (along_none (after step s) budget);
        no_call_before = λ i b. absurd (omega arith);
        names_last = sym (call_at_lem s e);
        stops_short = λ none b. absurd (false≢true cc);
      }

  -- one more, in front
  gone_more : (l : Leg) → calls_next s ≡ false → Gone (after step s) budget l → Gone s (suc budget) (leg_after_step l)
  unfolding leg_after_step after_all stepped last_call
  gone_more l e rest =
      record {
        along = along_more s normal rest.along;
        no_call_before = none;
        names_last = rest.names_last ∙ later l.count ∙ ap (λ (c : ℕ). last_call c s) (sym (add-one l.count));
        stops_short = λ named b. rest.stops_short named (omega arith);
      }
    where
      none : (i : ℕ) → i + 1 < l.count + 1 → calls_next (stepped i s) ≡ false
      none zero b = e
      none (suc i) b = rest.no_call_before i (omega arith)

      later : (k : ℕ) → last_call k (after step s) ≡ last_call (suc k) s
      later zero = sym (no_call_at s e)
      later (suc k) = refl

-- a step that the leg takes is an act
step_acts : (s : State) → Accepted s → is_normal s.machine.mode ≡ true → step_effect s ≡ after step s
unfolding effect_of
step_acts s ok normal = sym (after_done step s (accepted_done step s ok.answers_0 normal))

gone : (budget : ℕ) (s : State) → Accepted s → Gone s budget (to_call budget s)
unfolding to_call
gone zero s ok = gone_none s 0 (λ h. absurd (omega arith))
gone (suc budget) s ok =
    go (is_normal s.machine.mode) (calls_next s) refl refl (gone budget (after step s) (act_keeps_accepted step s ok))
  where
    go : (normal calls : Bool) → is_normal s.machine.mode ≡ normal → calls_next s ≡ calls
        → Gone (after step s) budget (to_call budget (after step s)) → Gone s (suc budget) (to_call (suc budget) s)
    go false calls n e rest = rw (leg_off (suc budget) s n) (gone_none s (suc budget) (λ h. n))
    go true true n e rest = rw (leg_calls budget s n e, step_acts s ok n) (gone_call s budget n e)
    go true false n e rest = rw (leg_on budget s n e, step_acts s ok n) (gone_more s budget n _ e rest)

-- the last call, named and found
last_found : (s : State) (count : ℕ) (g : VmId) (w : ℕ) → last_call count s ≡ Some (made g w) → EndsInCall s count g w
unfolding last_call
last_found s zero g w q = absurd (false≢true cc)
last_found s (suc k) g w q = go (calls_next (stepped k s)) refl
  where
    go : (calls : Bool) → calls_next (stepped k s) ≡ calls → EndsInCall s (suc k) g w
    go true e =
        let named : Some (made (stepped k s).machine.current (argument (stepped k s).machine 0)) ≡ Some (made g w) = sym (call_at_lem (stepped k s) e) ∙ q in
        let same : ◌≡◌ {A = MadeCall} (made (stepped k s).machine.current (argument (stepped k s).machine 0)) (made g w) = cc in
        record { before = k; one_more = omega arith; is_call = e; caller = ap (λ (c : MadeCall). c.caller) same; r0 = ap (λ (c : MadeCall). c.r0) same }
    go false e = let none : ◌≡◌ {A = Option MadeCall} None (Some (made g w)) = sym (no_call_at (stepped k s) e) ∙ q in absurd (false≢true cc)

last_named : (s : State) (count : ℕ) (g : VmId) (w : ℕ) → EndsInCall s count g w → last_call count s ≡ Some (made g w)
unfolding last_call
last_named s count g w ends =
    ap (λ (c : ℕ). last_call c s) (ends.one_more ∙ add-one ends.before)
    ∙ call_at_lem (stepped ends.before s) ends.is_call
    ∙ (λ i. Some (made (ends.caller i) (ends.r0 i)))

-- what a run up to a call leaves where the check accepts
pub leg_goes : (s : State) → Accepted s → (budget : ℕ) → run_to_call_of s.machine s.memory budget ≡ went_to_call Done (to_call budget s)
unfolding answer_number answers run_to_call_of
leg_goes s ok budget = rw ok.answers_0 (leg_done Done budget s refl)

pub leg_is_its_steps : LegIsItsSteps
unfolding answer_number answers stepped
leg_is_its_steps s ok budget =
    let all = gone budget s ok in
    rw (leg_goes s ok budget) (record {
      answers_0 = refl;
      is_stepped = all.along.is_stepped;
      within_budget = all.along.within_budget;
      each_normal = all.along.each_normal;
      each_answers_0 = λ i b.
          accepted_done step (stepped i s) (accepted_for_ever s ok (replicate i step)).answers_0 (all.along.each_normal i b);
      no_call_before = all.no_call_before;
      named_is_last = λ g w named. last_found s _ g w (sym all.names_last ∙ named);
      last_is_named = λ g w ends. all.names_last ∙ last_named s _ g w ends;
      stops_short = all.stops_short;
    })

pub refused_leg : LegRefused
unfolding run_to_call_of
refused_leg m memory budget e = leg_refused (check_of m memory) budget (state m memory) e

-- A run is a leg, and then the rest.

module _ (taken budget : ℕ) (s : State) (normal : is_normal s.machine.mode ≡ true) where
  lines_calls : calls_next s ≡ true
      → lines_from taken (suc budget) s
      ≡ line_of (taken + 1) s.machine.current (argument s.machine 0) (step_effect s).machine ∷ lines_from (taken + 1) budget (step_effect s)
  unfolding lines_from
  lines_calls e = rw (normal, e, lines_from)

  lines_on : calls_next s ≡ false → lines_from taken (suc budget) s ≡ lines_from (taken + 1) budget (step_effect s)
  unfolding lines_from
  lines_on e = rw (normal, e, lines_from)

-- after a leg of no step everything is still to come
rest_all : (budget : ℕ) (s : State) → ThenRest budget s (leg s 0 None)
unfolding line_for
rest_all budget s =
    let whole : budget - 0 ≡ budget = omega arith in
    record {
      reaches = rw whole;
      adds_up = rw whole (omega arith);
      tells = λ taken. let same : taken + 0 ≡ taken = omega arith in rw (whole, same);
    }

module _ (budget : ℕ) (s : State) (normal : is_normal s.machine.mode ≡ true) where
  rest_call : calls_next s ≡ true → ThenRest (suc budget) s (leg (step_effect s) 1 (Some (made s.machine.current (argument s.machine 0))))
  unfolding one_more line_for
  rest_call e =
      let less : suc budget - 1 ≡ budget = omega arith in
      record {
        reaches = rw (steps_on budget s normal, less);
        adds_up = rw (steps_on budget s normal, less) (omega arith);
        tells = λ taken. rw (lines_calls taken budget s normal e, less);
      }

  rest_more : (l : Leg) → calls_next s ≡ false → ThenRest budget (step_effect s) l → ThenRest (suc budget) s (leg_after_step l)
  unfolding one_more leg_after_step
  rest_more l e rest =
      let less : suc budget - (l.count + 1) ≡ budget - l.count = omega arith in
      record {
        reaches = rw (steps_on budget s normal, less) rest.reaches;
        adds_up = rw (steps_on budget s normal, less) (omega (arith, rest.adds_up));
        tells = λ taken.
            let same : taken + (l.count + 1) ≡ taken + 1 + l.count = omega arith in
            rw (lines_on taken budget s normal e, less, same) (rest.tells (taken + 1));
      }

pub leg_then_rest : LegThenRest
unfolding to_call
leg_then_rest zero s = rest_all 0 s
leg_then_rest (suc budget) s = go (is_normal s.machine.mode) (calls_next s) refl refl (leg_then_rest budget (step_effect s))
  where
    go : (normal calls : Bool) → is_normal s.machine.mode ≡ normal → calls_next s ≡ calls
        → ThenRest budget (step_effect s) (to_call budget (step_effect s)) → ThenRest (suc budget) s (to_call (suc budget) s)
    go false calls n e rest = rw (leg_off (suc budget) s n) (rest_all (suc budget) s)
    go true true n e rest = rw (leg_calls budget s n e) (rest_call budget s n e)
    go true false n e rest = rw (leg_on budget s n e) (rest_more budget s n _ e rest)

-- no step, no line
lines_off : (taken budget : ℕ) (s : State) → is_normal s.machine.mode ≡ false → lines_from taken budget s ≡ []
unfolding lines_from
lines_off taken zero s e = refl
lines_off taken (suc budget) s e = rw (e, lines_from)

pub lines_end : LinesEnd
unfolding lines_from
lines_end taken s = record { budget_used = refl; mode_left = λ budget e. lines_off taken budget s e }

-- the worked cases
pub bench_example : BenchExample
unfolding entries_compute box owned ownerless words one_more steps went_by run_of is_called calls_next line_of lines_from two_guests programs shown line
bench_example = record { yields = refl; before_the_call = refl; behind_the_call = refl; switches = refl }
