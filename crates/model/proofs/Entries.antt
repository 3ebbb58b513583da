-- What is known of a machine and a memory where the check answers 0.
use Prim.Native.Nat.{ℕ, ◌*◌}
use mathlib.Core.Path.{◌≡◌, refl, ap}
use mathlib.Core.Bool.{Bool, true, false, false≢true}
use mathlib.Core.List.{List}
use lib.ListN.{length}
use borrow.Author.Tests.{eqb-true}
use Rattle.model.specs.declared.Machine.{Machine}
use Rattle.model.specs.declared.Answer.{Answer}
use Rattle.model.specs.declared.Answer.TheVariants.{Done, WrongMemory, Unsound, Stopped, BrokenImage}
use Rattle.model.specs.Constants.{PAGE}
use Rattle.model.specs.Answer.{answer_number, answers, is_done}
use Rattle.model.specs.Sound.{Sound}
use Rattle.model.specs.Entries.{judged, check_of}
use Rattle.model.proofs.Sound.{sound_holds}

pub is_done_lem : (answer : Answer) → is_done answer ≡ true → answer ≡ Done
unfolding answer_number answers
is_done_lem Done e = refl
is_done_lem WrongMemory e = absurd (false≢true e)
is_done_lem Unsound e = absurd (false≢true e)
is_done_lem Stopped e = absurd (false≢true e)
is_done_lem BrokenImage e = absurd (false≢true e)

done_parts : (fits isSound : Bool) → is_done (judged fits isSound) ≡ true → (fits ≡ true) × (isSound ≡ true)
unfolding answer_number answers judged
done_parts true true e = (refl, refl)
done_parts true false e = absurd (false≢true e)
done_parts false true e = absurd (false≢true e)
done_parts false false e = absurd (false≢true e)

pub done_memory : (m : Machine) (memory : List ℕ) → check_of m memory ≡ Done → length memory ≡ PAGE * m.m
unfolding check_of answer_number answers
done_memory m memory e = eqb-true _ _ (done_parts _ _ (ap is_done e)).0

pub done_sound : (m : Machine) (memory : List ℕ) → check_of m memory ≡ Done → Sound m
unfolding check_of answer_number answers
done_sound m memory e = sound_holds m (done_parts _ _ (ap is_done e)).1
