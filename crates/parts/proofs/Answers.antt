-- What the proofs of the calls share: the caller is a guest; which way a chain of tests goes; what a refused call and a call
-- that passes leave; guest 0 made current by a primary and by a secondary.
use Prim.Native.Nat.{ℕ, ◌≤◌, ◌<◌}
use mathlib.Core.Path.{◌≡◌, refl, sym}
use mathlib.Core.Bool.{Bool, true, false}
use mathlib.Core.List.{List}
use native.Mathlib.Omega.{arith}
use Rattle.model.specs.declared.Registers.{Registers}
use Rattle.model.specs.declared.Machine.{Machine}
use Rattle.model.specs.Constants.{GUESTS}
use Rattle.model.specs.State.{State, state, primary, is_primary, written, with_registers, with_current}
use Rattle.model.specs.Reply.{Verdict, passes, refused, need, with_error, answer, told, woken, handed_over}
use Rattle.model.specs.Sound.{sound}
use Rattle.parts.specs.Refusal.{code_of, verdict_of}
use Rattle.isa.specs.Tests.{◌and◌}
use Rattle.model.proofs.Reply.{answer_passes}
use Rattle.model.proofs.Same.{same_vm_true}
use Rattle.model.proofs.Sound.{sound_holds}

-- what opens a call's verdict and its answer, to be named at a function
unfoldable pub answering : Unit {0}
unfolding need answer code_of verdict_of
answering = tt

pub guests_few : (m : Machine) → sound m ≡ true → m.n ≤ GUESTS
guests_few m e = (sound_holds m e).counts_in_range.eight_guests

pub caller_below : (m : Machine) → sound m ≡ true → m.current.0 < GUESTS
caller_below m e =
    let below : m.current.0 < m.n = (sound_holds m e).current_below in
    let few = guests_few m e in
    omega arith

-- A chain of tests: one that fails ends it, one that passes leaves the rest.

pub need_fails : {t : Bool} (code : ℕ) (rest : Verdict) → t ≡ false → need t code rest ≡ refused code
unfolding need
need_fails code rest e = rw e

pub need_passes : {t : Bool} (code : ℕ) (rest : Verdict) → t ≡ true → need t code rest ≡ rest
unfolding need
need_passes code rest e = rw e

-- two tests with one code are one test
pub need_joined : (t u : Bool) (code : ℕ) (rest : Verdict) → need t code (need u code rest) ≡ need (t and u) code rest
unfolding need ◌and◌
need_joined true u code rest = refl
need_joined false u code rest = refl

-- What is left.

pub refusal : (m : Machine) (memory : List ℕ) (done : State) {v : Verdict} {code : ℕ} → v ≡ refused code
    → state (with_error m code) memory ≡ answer v (state m memory) done
unfolding answer
refusal m memory done e = rw e

pub success : (before : State) {done : State} {v : Verdict} → v ≡ passes → done ≡ answer v before done
success before {done} e = sym (answer_passes before done e)

-- guest 0 was current already
pub woken_primary : (m : Machine) (files : List Registers) → is_primary m.current ≡ true → woken m files ≡ m
unfolding woken is_primary
woken_primary m files e = rw (e, ← same_vm_true m.current primary e)

pub woken_secondary : (m : Machine) (files : List Registers) → is_primary m.current ≡ false
    → woken m files ≡ with_current (with_registers m files) primary
unfolding woken
woken_secondary m files e = rw e

-- guest 0 is told by which call, and whose
pub handed_secondary :
    (m : Machine) (why : ℕ) {first all : List Registers} →
    is_primary m.current ≡ false →
    first ≡ written m.registers primary 0 why →
    all ≡ written first primary 1 m.current.0 →
    with_current (with_registers m all) primary ≡ handed_over m why
unfolding handed_over told
handed_secondary m why p e f = rw (f, e) (sym (woken_secondary m _ p))
