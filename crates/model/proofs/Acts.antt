-- What a step, a call and a run leave: their effect where the answer is 0, else the state as it was. And what an answer 0
-- tells.
use Prim.Native.Nat.{ℕ, suc}
use mathlib.Core.Path.{◌≡◌, refl, sym, ap, ◌∙◌}
use mathlib.Core.Bool.{Bool, true, false, false≢true}
use mathlib.Core.List.{List}
use Rattle.model.specs.declared.Mode.{Mode}
use Rattle.model.specs.declared.Mode.TheVariants.{Normal, Fault, Halted}
use Rattle.model.specs.declared.Machine.{Machine}
use Rattle.model.specs.declared.Answer.{Answer}
use Rattle.model.specs.declared.Answer.TheVariants.{Done, WrongMemory, Unsound, Stopped, BrokenImage}
use Rattle.model.specs.State.{State, is_normal}
use Rattle.model.specs.Answer.{answer_number, answers, is_done}
use Rattle.model.specs.Call.{call_effect}
use Rattle.model.specs.Step.{step_effect}
use Rattle.model.specs.Entries.{check_of, then_mode, acted, acted_by, step_of, call_of, still, one_more, steps, went, went_by}
use Rattle.model.specs.Act.{Act, step, call, entry_of, after}

-- Answers.

-- a step or call answers 0 where the check does and the mode is normal, and nowhere else
pub then_mode_done : (mode : Mode) → is_normal mode ≡ true → then_mode Done mode ≡ Done
unfolding is_normal answer_number answers then_mode
then_mode_done Normal e = refl
then_mode_done Fault e = absurd (false≢true e)
then_mode_done Halted e = absurd (false≢true e)

pub then_mode_parts : (answer : Answer) (mode : Mode) → is_done (then_mode answer mode) ≡ true → (answer ≡ Done) × (is_normal mode ≡ true)
unfolding is_normal answer_number answers then_mode
then_mode_parts Done Normal e = (refl, refl)
then_mode_parts Done Fault e = absurd (false≢true e)
then_mode_parts Done Halted e = absurd (false≢true e)
then_mode_parts WrongMemory mode e = absurd (false≢true e)
then_mode_parts Unsound mode e = absurd (false≢true e)
then_mode_parts Stopped mode e = absurd (false≢true e)
then_mode_parts BrokenImage mode e = absurd (false≢true e)

pub answers_done : (m : Machine) (memory : List ℕ) → check_of m memory ≡ Done → is_normal m.mode ≡ true
    → then_mode (check_of m memory) m.mode ≡ Done
answers_done m memory e normal = rw e (then_mode_done m.mode normal)

-- What is left, of any effect.

pub acted_done : (answer : Answer) (effect : State → State) (s : State) → is_done answer ≡ true
    → acted_by answer effect s ≡ acted answer (effect s)
unfolding acted_by
acted_done answer effect s e = rw e

pub acted_refused : (answer : Answer) (effect : State → State) (s : State) → is_done answer ≡ false
    → acted_by answer effect s ≡ acted answer s
unfolding acted_by
acted_refused answer effect s e = rw e

-- Acts.

-- what an act does where it is not refused
unfoldable pub effect_of : Act → State → State
effect_of step s = step_effect s
effect_of call s = call_effect s

-- what an act answers
unfoldable pub answer_of : State → Answer
answer_of s = then_mode (check_of s.machine s.memory) s.machine.mode

pub entry_acts : (a : Act) (s : State) → entry_of a s ≡ acted_by (answer_of s) (effect_of a) s
unfolding step_of call_of entry_of effect_of answer_of
entry_acts step s = refl
entry_acts call s = refl

-- step and call answer alike
pub act_answers : (a : Act) (s : State) → (entry_of a s).result.answer ≡ answer_of s
unfolding acted_by
act_answers a s = rw (entry_acts a s)

-- a refused act leaves the state as it was
pub after_refused : (a : Act) (s : State) → is_done (entry_of a s).result.answer ≡ false → after a s ≡ s
unfolding after
after_refused a s e =
    rw (entry_acts a s, acted_refused (answer_of s) (effect_of a) s (ap is_done (sym (act_answers a s)) ∙ e))

-- any other has its effect
pub after_done : (a : Act) (s : State) → is_done (entry_of a s).result.answer ≡ true → after a s ≡ effect_of a s
unfolding after
after_done a s e =
    rw (entry_acts a s, acted_done (answer_of s) (effect_of a) s (ap is_done (sym (act_answers a s)) ∙ e))

-- so what holds of the state, and of the effect if the act is not refused, holds after the act
pub after_either : (P : State → Type 0) (a : Act) (s : State) → P s
    → (is_done (entry_of a s).result.answer ≡ true → P (effect_of a s)) → P (after a s)
after_either P a s as-was done = go (is_done (entry_of a s).result.answer) refl
  where
    go : (b : Bool) → is_done (entry_of a s).result.answer ≡ b → P (after a s)
    go true e = rw (after_done a s e) (done e)
    go false e = rw (after_refused a s e) as-was

-- where the answer is 0, the check has passed and the mode is normal
pub done_accepted : (a : Act) (s : State) → is_done (entry_of a s).result.answer ≡ true
    → (check_of s.machine s.memory ≡ Done) × (is_normal s.machine.mode ≡ true)
unfolding answer_of
done_accepted a s e = then_mode_parts _ _ (ap is_done (sym (act_answers a s)) ∙ e)

-- which is all that it wants
pub accepted_done : (a : Act) (s : State) → check_of s.machine s.memory ≡ Done → is_normal s.machine.mode ≡ true
    → is_done (entry_of a s).result.answer ≡ true
unfolding answer_number answers answer_of
accepted_done a s e normal = ap is_done (act_answers a s ∙ answers_done s.machine s.memory e normal)

-- Runs.

pub went_done : (answer : Answer) (budget : ℕ) (s : State) → is_done answer ≡ true → went_by answer budget s ≡ went answer (steps budget s)
unfolding went_by
went_done answer budget s e = rw e

pub went_refused : (answer : Answer) (budget : ℕ) (s : State) → is_done answer ≡ false → went_by answer budget s ≡ went answer (still s)
unfolding went_by
went_refused answer budget s e = rw e

-- it goes on while the mode is normal
pub steps_on : (budget : ℕ) (s : State) → is_normal s.machine.mode ≡ true
    → steps (suc budget) s ≡ one_more (steps budget (step_effect s))
unfolding steps
steps_on budget s e = rw (e, steps)

pub steps_off : (budget : ℕ) (s : State) → is_normal s.machine.mode ≡ false → steps (suc budget) s ≡ still s
unfolding steps
steps_off budget s e = rw (e, steps)
