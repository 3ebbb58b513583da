-- Which way the definitions of the entries go, by what the code tests.
use Prim.Native.Nat.{ℕ, ◌*◌}
use mathlib.Core.Path.{◌≡◌, refl, sym, ◌∙◌}
use mathlib.Core.Bool.{Bool, true, false, cond, not}
use mathlib.Core.List.{List}
use lib.ListN.{length}
use borrow.Author.Tests.{eq-eqb, ne_eqb, not-true, not-false}
use Rattle.model.specs.declared.Mode.{Mode}
use Rattle.model.specs.declared.Machine.{Machine}
use Rattle.model.specs.declared.Answer.{Answer}
use Rattle.model.specs.declared.Answer.TheVariants.{Done, WrongMemory, Unsound, Stopped, BrokenImage}
use Rattle.model.specs.declared.Mode.TheVariants.{Normal, Fault, Halted}
use Rattle.model.specs.contracts.Answer as of-answer
use Rattle.model.specs.contracts.Mode as of-mode
use denote.Enum.Bare.{sameb}
use Rattle.model.specs.Constants.{PAGE}
use Rattle.model.specs.State.{State, state, is_normal}
use Rattle.model.specs.Answer.{answer_number, answers, is_done}
use Rattle.model.specs.Sound.{sound}
use Rattle.model.specs.Call.{call_effect}
use Rattle.model.specs.Entries.{judged, check_of, then_mode, acted, acted_by, call_of}
use Rattle.model.proofs.Sound.{holds_sound}
use Rattle.model.proofs.Entries.{is_done_lem, done_memory, done_sound}

-- The check.

pub memory_wrong : (m : Machine) (memory : List ℕ) → (length memory ≡ PAGE * m.m → ⊥) → WrongMemory ≡ check_of m memory
unfolding check_of judged
memory_wrong m memory wrong = rw (ne_eqb (length memory) (PAGE * m.m) wrong)

module _ (m : Machine) (memory : List ℕ) {isSound : Bool} (fits : length memory ≡ PAGE * m.m) (asked : isSound ≡ sound m) where
  pub check_unsound : isSound ≡ false → Unsound ≡ check_of m memory
  unfolding check_of judged
  check_unsound e = rw (eq-eqb (length memory) (PAGE * m.m) fits, ← asked, e)

  pub check_done : isSound ≡ true → Done ≡ check_of m memory
  unfolding check_of judged
  check_done e = rw (eq-eqb (length memory) (PAGE * m.m) fits, ← asked, e)

-- An answer is 0, or it is not: the code compares it, `answer != Answer::Done`.

same_done : (answer : Answer) → sameb of-answer.the_type answer Done ≡ is_done answer
unfolding answers answer_number
same_done Done = refl
same_done WrongMemory = refl
same_done Unsound = refl
same_done Stopped = refl
same_done BrokenImage = refl

pub told_done : (answer : Answer) {differs : Bool} → differs ≡ not (sameb of-answer.the_type answer Done) → differs ≡ false
    → is_done answer ≡ true
told_done answer asked e = sym (same_done answer) ∙ not-false _ (sym asked ∙ e)

pub told_refused : (answer : Answer) {differs : Bool} → differs ≡ not (sameb of-answer.the_type answer Done) → differs ≡ true
    → is_done answer ≡ false
told_refused answer asked e = sym (same_done answer) ∙ not-true _ (sym asked ∙ e)

-- so is the mode, `mode == Mode::Normal`
pub same_normal : (mode : Mode) → sameb of-mode.the_type mode Normal ≡ is_normal mode
unfolding is_normal
same_normal Normal = refl
same_normal Fault = refl
same_normal Halted = refl

-- The mode.

pub mode_unasked : (answer : Answer) (mode : Mode) → is_done answer ≡ false → answer ≡ then_mode answer mode
unfolding then_mode
mode_unasked answer mode e = rw e

pub mode_normal : (answer : Answer) (mode : Mode) → is_done answer ≡ true → is_normal mode ≡ true → Done ≡ then_mode answer mode
unfolding then_mode
mode_normal answer mode e n = rw (e, n)

-- of a normal mode the answer is the check's own, 0 too
pub mode_kept : (answer : Answer) {due : Answer} (mode : Mode) → answer ≡ due → is_normal mode ≡ true → due ≡ then_mode answer mode
mode_kept answer mode told n = sym told ∙ go (is_done answer) refl
  where
    go : (done : Bool) → is_done answer ≡ done → answer ≡ then_mode answer mode
    go true d = is_done_lem answer d ∙ mode_normal answer mode d n
    go false d = mode_unasked answer mode d

pub mode_stopped : (answer : Answer) (mode : Mode) → is_done answer ≡ true → is_normal mode ≡ false → Stopped ≡ then_mode answer mode
unfolding then_mode
mode_stopped answer mode e n = rw (e, n)

-- What is left: the effect where the answer is 0, the state as it was where it is not.

pub acts : (answer : Answer) (effect : State → State) (s : State) → is_done answer ≡ true
    → acted answer (effect s) ≡ acted_by answer effect s
unfolding acted_by
acts answer effect s e = rw e

pub refuses : (answer : Answer) (effect : State → State) (s : State) → is_done answer ≡ false
    → acted answer s ≡ acted_by answer effect s
unfolding acted_by
refuses answer effect s e = rw e

-- An answer 0 of step and call: the check answered 0, so the machine is sound and its memory fits.

pub mode_done : (answer : Answer) (mode : Mode) → is_done (then_mode answer mode) ≡ true → answer ≡ Done
unfolding then_mode
mode_done answer mode e = is_done_lem answer (go (is_done answer) refl e)
  where
    go : (b : Bool) → is_done answer ≡ b → is_done (cond b (cond (is_normal mode) Done Stopped) answer) ≡ true → is_done answer ≡ true
    go true q e = q
    go false q e = e

module _ (m : Machine) (memory : List ℕ) (answer : Answer) (e : answer ≡ then_mode (check_of m memory) m.mode) where
  pub checked : is_done answer ≡ true → (sound m ≡ true) × (length memory ≡ PAGE * m.m)
  checked d =
      let done : check_of m memory ≡ Done = mode_done (check_of m memory) m.mode (rw e at d) in
      (holds_sound m (done_sound m memory done), done_memory m memory done)

  -- What call leaves.

  pub call_refused : is_done answer ≡ false → acted answer (state m memory) ≡ call_of m memory
  unfolding call_of
  call_refused d = rw (← e) (refuses answer call_effect (state m memory) d)

  pub call_done : is_done answer ≡ true → (after : State) → after ≡ call_effect (state m memory) → acted answer after ≡ call_of m memory
  unfolding call_of
  call_done d after did = rw (← e, did) (acts answer call_effect (state m memory) d)
