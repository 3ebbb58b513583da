-- A turn of the bench: a run up to a call, and what is to come behind it. It takes a step if it came to a call, and is the last if
-- it came to none.
-- Assumes nothing.
use Rattle.model.specs.ToCall.{made, to_call, went_to_call, run_to_call_of, Line, lines_from}
use Rattle.std.specs.Prelude.{Option, None, Some}
use Rattle.model.specs.declared.MadeCall.{MadeCall}
use Prim.Native.Nat.{ℕ, zero, suc, ◌+◌, ◌-◌, ◌≤◌, ◌<◌}
use mathlib.Core.Path.{◌≡◌, refl, sym, ap, ◌∙◌}
use mathlib.Core.Bool.{Bool, true, false, false≢true}
use mathlib.Core.List.{List, [], ◌∷◌, ◌++◌, append_assoc, append-nil}
use native.Mathlib.Omega.{arith}
use lib.ListN.{replicate}
use Rattle.model.specs.declared.VmId.{VmId}
use Rattle.model.specs.declared.Machine.{Machine}
use Rattle.model.specs.declared.Answer.TheVariants.{Done}
use Rattle.model.specs.declared.RanToCall.{RanToCall}
use Rattle.model.specs.Constants.{GUESTS}
use Rattle.model.specs.State.{State, state, is_normal}
use Rattle.model.specs.Answer.{answer_number, answers, is_done}
use Rattle.model.specs.Shaped.{Shaped}
use Rattle.model.specs.Entries.{check_of, went, still, steps, run_of}
use Rattle.model.specs.Act.{step}
use Rattle.model.specs.Kept.{Accepted}
use Rattle.model.specs.RunSteps.{stepped}
use Rattle.model.specs.Legs.{EndsInCall, LegSteps, line_for}
use Rattle.model.proofs.Acts.{went_refused, steps_off}
use Rattle.model.proofs.RunSteps.{run_goes}
use Rattle.model.proofs.Entries.{is_done_lem}
use Rattle.model.proofs.Kept.{accepted_fit, accepted_for_ever}
use Rattle.model.proofs.Legs.{leg_goes, leg_is_its_steps, refused_leg, leg_then_rest, lines_end}
use Rattle.runs.proofs.Fits.{current_below}
use Rattle.lines.specs.Text.{line_text}
use Rattle.show.specs.Told.{lines_text, lines_if, calls_from, Rest, rest, behind, last_line, rest_of}

-- Texts one behind the other.

lines_append : (ls ks : List Line) → lines_text (ls ++ ks) ≡ lines_text ls ++ lines_text ks
unfolding lines_text
lines_append [] ks = refl
lines_append (l ∷ ls) ks = rw (lines_append ls ks) (sym (append_assoc (line_text l) (lines_text ls) (lines_text ks)))

pub line_alone : (l : Line) → lines_text (l ∷ []) ≡ line_text l
unfolding lines_text
line_alone l = append-nil (line_text l)

pub behind_behind : (a b : List ℕ) (r : Rest) → behind (a ++ b) r ≡ behind a (behind b r)
behind_behind a b r = λ i. rest (append_assoc a b r.text i) r.end

lines_then : (ls ks : List Line) (r : Rest) → behind (lines_text (ls ++ ks)) r ≡ behind (lines_text ls) (behind (lines_text ks) r)
lines_then ls ks r = rw (lines_append ls ks) (behind_behind (lines_text ls) (lines_text ks) r)

-- What a run leaves where the check accepts, and where it refuses.

run_refused : (m : Machine) (memory : List ℕ) (budget : ℕ) → is_done (check_of m memory) ≡ false
    → run_of m memory budget ≡ went (check_of m memory) (still (state m memory))
unfolding run_of
run_refused m memory budget e = went_refused (check_of m memory) budget (state m memory) e

stepped_ok : (s : State) → Accepted s → (i : ℕ) → Accepted (stepped i s)
unfolding stepped
stepped_ok s ok i = accepted_for_ever s ok (replicate i step)

-- no step is left: the budget is used, or the mode is no longer normal

no_steps : (budget : ℕ) (s : State) → (0 < budget → is_normal s.machine.mode ≡ false) → steps budget s ≡ still s
unfolding steps
no_steps zero s off = refl
no_steps (suc budget) s off = steps_off budget s (off (omega arith))

no_lines : (taken budget : ℕ) (s : State) → (0 < budget → is_normal s.machine.mode ≡ false) → lines_from taken budget s ≡ []
no_lines taken zero s off = (lines_end taken s).budget_used
no_lines taken (suc budget) s off = (lines_end taken s).mode_left (suc budget) (off (omega arith))

-- What is to come of a run that the check accepts: by its steps. Of one that it refuses: the last line.

rest_goes : (budget left : ℕ) (s : State) → Accepted s
    → rest_of budget left s.machine s.memory
    ≡ behind
    (lines_text (lines_from (budget - left) left s))
    (last_line (budget - left + (steps left s).count) (steps left s).reached.machine)
unfolding rest_of calls_from lines_if answer_number answers
rest_goes budget left s ok = rw (run_goes s ok left, ok.answers_0)

rest_refused : (budget left : ℕ) (m : Machine) (memory : List ℕ) → is_done (check_of m memory) ≡ false
    → rest_of budget left m memory ≡ last_line (budget - left) m
unfolding rest_of calls_from lines_if lines_text
rest_refused budget left m memory e =
    let none : budget - left + 0 ≡ budget - left = omega arith in
    rw (run_refused m memory left e, e, none)

-- where no step is left
rest_over : (budget left : ℕ) (s : State) → Accepted s → (0 < left → is_normal s.machine.mode ≡ false)
    → rest_of budget left s.machine s.memory ≡ last_line (budget - left) s.machine
unfolding lines_text
rest_over budget left s ok off =
    let none : budget - left + 0 ≡ budget - left = omega arith in
    rest_goes budget left s ok ∙ rw (no_lines (budget - left) left s off, no_steps left s off, none)

-- A turn took so many steps and came to a call, or to none: its lines, and then the rest.
pub record Gone (budget left : ℕ) (first : Rest) (m : Machine) (memory : List ℕ) (count : ℕ) (call : Option MadeCall) : Type 0 where
  pub taken : count ≤ left
  pub shaped : Shaped m
  pub then_rest : first ≡ behind (lines_text (line_for (budget - (left - count)) call m)) (rest_of budget (left - count) m memory)
  pub called : (g : VmId) (w : ℕ) → call ≡ Some (made g w) → (0 < count) × (g.0 < GUESTS)
  pub last : call ≡ None → rest_of budget (left - count) m memory ≡ last_line (budget - (left - count)) m

module _ (budget left : ℕ) (within : left ≤ budget) (m : Machine) (shaped : Shaped m) (memory : List ℕ) where
  -- the check refuses
  refused : is_done (check_of m memory) ≡ false → Gone budget left (rest_of budget left m memory) m memory 0 None
  unfolding line_for lines_text
  refused e =
      let none : left - 0 ≡ left = omega arith in
      record {
        taken = omega arith;
        shaped = shaped;
        then_rest = rw none;
        called = λ g w named. absurd (false≢true cc);
        last = λ named. rw none (rest_refused budget left m memory e);
      }

  -- it accepts
  module _ (ok : Accepted (state m memory)) where
    steps_of : LegSteps (state m memory) left (went_to_call Done (to_call left (state m memory)))
    steps_of = rw (leg_goes (state m memory) ok left) at (leg_is_its_steps (state m memory) ok left)

    still_ok : Accepted (to_call left (state m memory)).reached
    still_ok = rw steps_of.is_stepped (stepped_ok (state m memory) ok (to_call left (state m memory)).count)

    goes_on : let l = to_call left (state m memory) in
        rest_of budget left m memory
        ≡ behind
        (lines_text (line_for (budget - (left - l.count)) l.call l.reached.machine))
        (rest_of budget (left - l.count) l.reached.machine l.reached.memory)
    goes_on =
        let s = state m memory in
        let l = to_call left s in
        let next = left - l.count in
        let parts = leg_then_rest left s in
        let number : budget - left + l.count ≡ budget - next = omega (arith, steps_of.within_budget) in
        let count : budget - left + (steps left s).count ≡ budget - next + (steps next l.reached).count =
        omega (arith, parts.adds_up) in
        rest_goes budget left s ok
        ∙ rw (parts.tells (budget - left), number, count, parts.reaches)
        (lines_then
        (line_for (budget - next) l.call l.reached.machine)
        (lines_from (budget - next) next l.reached)
        (last_line (budget - next + (steps next l.reached).count) (steps next l.reached).reached.machine))
        ∙ ap (behind (lines_text (line_for (budget - next) l.call l.reached.machine)))
        (sym (rest_goes budget next l.reached still_ok))

    accepted : let l = to_call left (state m memory) in
        Gone budget left (rest_of budget left m memory) l.reached.machine l.reached.memory l.count l.call
    accepted =
        let l = to_call left (state m memory) in
        record {
          taken = steps_of.within_budget;
          shaped = still_ok.shaped;
          then_rest = goes_on;
          called = λ g w named. by_guest g (steps_of.named_is_last g w named);
          last = λ named.
              rest_over budget (left - l.count) l.reached still_ok (λ some. steps_of.stops_short named (omega arith));
        }
      where
        by_guest : (g : VmId) {w : ℕ} → EndsInCall (state m memory) (to_call left (state m memory)).count g w
            → (0 < (to_call left (state m memory)).count) × (g.0 < GUESTS)
        by_guest g ends =
            let before = stepped_ok (state m memory) ok ends.before in
            (omega (arith, ends.one_more), rw ends.caller at (current_below (accepted_fit _ before)))

  -- either
  turns : let w = run_to_call_of m memory left in
      Gone budget left (rest_of budget left m memory) w.result.machine w.memory w.result.count w.result.call
  turns = go (is_done (check_of m memory)) refl
    where
      go : (done : Bool) → is_done (check_of m memory) ≡ done
          → let w = run_to_call_of m memory left in
          Gone budget left (rest_of budget left m memory) w.result.machine w.memory w.result.count w.result.call
      go false e = rw (refused_leg m memory left e) (refused e)
      go true e =
          let ok : Accepted (state m memory) = record { shaped = shaped; answers_0 = is_done_lem (check_of m memory) e } in
          rw (leg_goes (state m memory) ok left) (accepted ok)

  pub turn : {r : RanToCall} {after : List ℕ} → record { result = r; memory = after } ≡ run_to_call_of m memory left
      → Gone budget left (rest_of budget left m memory) r.machine after r.count r.call
  turn e = rw (← e) at turns
