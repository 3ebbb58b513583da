-- The laws of the calls on a handle: what is found on a sound machine the deeds take; and the ways out of the one chain of tests,
-- over who may, which mark and which deed.
use Rattle.std.specs.Prelude.{None, Some}
use Prim.Native.Nat.{ℕ}
use mathlib.Core.Path.{◌≡◌, sym}
use mathlib.Core.Bool.{Bool, true}
use mathlib.Core.List.{List}
use native.Mathlib.Omega.{arith}
use Rattle.model.specs.declared.VmId.{VmId}
use Rattle.model.specs.declared.Handle.{Handle}
use Rattle.model.specs.declared.Deal.{Deal}
use Rattle.model.specs.declared.Machine.{Machine}
use Rattle.model.specs.Constants.{INVALID, DENIED, ABORTED}
use Rattle.model.specs.Tests.{agree}
use Rattle.model.specs.State.{state, count_in, count_of, argument}
use Rattle.model.specs.HandleCall.{in_place, handle_verdict, applied, own_found, handle_effect}
use Rattle.model.specs.Reply.{Verdict, passes, refused, need, with_error, succeeded}
use Rattle.model.specs.Sound.{sound}
use Rattle.model.proofs.Sound.{sound_holds}
use Rattle.model.proofs.Calls.{lookup_live}
use Rattle.parts.proofs.Answers.{refusal, success}
use Rattle.handles.specs.Deeds.{Dealt}

-- What the caller of a sound machine finds, the deeds take.
pub found_dealt : (m : Machine) (h : Handle) (d : Deal) → sound m ≡ true → own_found m ≡ Some (h, d) → Dealt m h d
unfolding own_found count_of count_in
found_dealt m h d e f =
    let found = lookup_live m.transactions (argument m 1) h d f in
    let whole = sound_holds m e in
    let counts = whole.counts_in_range in
    let parties = whole.parties_below _ d found.0 found.2 in
    rw found.1 (record {
      place = found.0;
      reached =
          record {
            few = rw found.2 (whole.page_counts_in_range _ d found.0 found.2).1;
            below = λ i b. omega (arith, whole.pages_below _ i found.0 b);
          };
      sender = omega arith;
      receiver = omega arith;
    })

-- The ways out of a call on a handle: nothing is found, a test fails, all pass.

module _ (may : Deal → VmId → Bool) (mark : Bool) (deed : Machine → Handle → Deal → Machine) (m : Machine) (memory : List ℕ) where
  pub nothing_found : own_found m ≡ None → state (with_error m INVALID) memory ≡ handle_effect may mark deed (state m memory)
  unfolding handle_effect handle_verdict
  nothing_found found = refusal m memory _ (rw found)

  module _ {h : Handle} {d : Deal} {party marked : Bool} (found : own_found m ≡ Some (h, d))
      (may_it : party ≡ may d m.current) (as_due : marked ≡ agree d.retrieved mark) where
    -- what is tested, in its order
    abbrev tests : Verdict
    tests = need party DENIED (need marked DENIED (need (in_place m h d) ABORTED passes))

    pub test_failed : {code : ℕ} → refused code ≡ tests → state (with_error m code) memory ≡ handle_effect may mark deed (state m memory)
    unfolding handle_effect handle_verdict
    test_failed e = refusal m memory _ (sym (rw (found, ← may_it, ← as_due) e))

    pub tests_passed : passes ≡ tests → state (succeeded (deed m h d)) memory ≡ handle_effect may mark deed (state m memory)
    unfolding handle_effect handle_verdict applied
    tests_passed e = rw found (success (state m memory) (sym (rw (← may_it, ← as_due) e)))
