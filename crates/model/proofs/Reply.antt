-- What is known of a call whose verdict passes.
use Prim.Native.Nat.{ℕ}
use mathlib.Core.Path.{◌≡◌, refl, ap}
use mathlib.Core.Bool.{Bool, true, false, false≢true}
use Rattle.model.specs.State.{State}
use Rattle.model.specs.Reply.{Verdict, passes, refused, need, answer}

not_refused : Verdict → Bool
not_refused passes = true
not_refused (refused code) = false

-- a chain that passes has passed its first test and the rest
pub need_test : (t : Bool) (code : ℕ) (rest : Verdict) → need t code rest ≡ passes → t ≡ true
unfolding need not_refused
need_test true code rest e = refl
need_test false code rest e = ap not_refused e

pub need_rest : (t : Bool) (code : ℕ) (rest : Verdict) → need t code rest ≡ passes → rest ≡ passes
unfolding need not_refused
need_rest true code rest e = e
need_rest false code rest e = absurd (false≢true (ap not_refused e))

-- a call whose verdict passes does what it does
pub answer_passes : {v : Verdict} (before done : State) → v ≡ passes → answer v before done ≡ done
unfolding answer
answer_passes before done e = rw e
