-- A machine that advances does what its guest does in a burst, and then what stopped it.
use Rattle.model.specs.ToCall.{made}
use Rattle.std.specs.Prelude.{None, Some}
use Rattle.std.proofs.Common.{◌≡◌, ℕ, zero, suc, ◌<◌, Bool, true, false, List, length, sym, refl, ap, ◌∙◌, set-set}
use mathlib.Core.Bool.{false≢true}
use lib.Seq.{set-get_or}
use Rattle.isa.specs.Tests.{◌and◌}
use Rattle.isa.proofs.Tests.{and_false}
use Rattle.model.specs.declared.Registers.{Registers}
use Rattle.model.specs.declared.Machine.{Machine}
use Rattle.model.specs.State.{State, state, registers_at, is_normal, with_registers, own_registers, own_mailbox, argument}
use Rattle.model.specs.Rights.{rights}
use Rattle.model.specs.Execute.{Move, moved, called, faulted, halted, guest_step}
use Rattle.model.specs.Step.{with_own, fault, halt, ended, step_effect}
use Rattle.model.specs.ToCall as model
use Rattle.model.proofs.State.{file_same}
use Rattle.exec.specs.declared.instruction.Stop.TheVariants.{Called}
use Rattle.exec.specs.Turn.{ends, turn_of}
use Rattle.exec.specs.Burst.{go_on, burst_of}
use Rattle.runs.specs.Advance.{rest, advance_of, by_call, ended_by, after_stop, after_burst}

-- The current guest's registers put back: once more, and as they were.

pub own_again : (m : Machine) (file next : Registers) → with_own (with_own m file) next ≡ with_own m next
unfolding with_own
own_again m file next = ap (with_registers m) (set-set m.registers m.current.0 file next)

pub own_back : (m : Machine) → with_own m (own_registers m) ≡ m
unfolding with_own own_registers registers_at
own_back m = ap (with_registers m) (set-get_or m.registers m.current.0 _)

-- the move that the machine makes is the guest's
own_move : (m : Machine) (file : Registers) (memory : List ℕ) → m.current.0 < length m.registers
    → guest_step (rights (with_own m file)) (own_registers (with_own m file)) memory ≡ guest_step (rights m) file memory
unfolding with_own own_registers own_mailbox rights
own_move m file memory b =
    ap (λ (own : Registers). guest_step (rights m) own memory) (file_same m.registers m.current file b)

-- Advancing, by the move that the current guest makes next.

abbrev next_move : State → Move
next_move s = guest_step (rights s.machine) (own_registers s.machine) s.memory

-- a step, unless it is a call and only the way to it is wanted
advance_on : (onlyToCall : Bool) (budget : ℕ) (s : State) (x : Move) → is_normal s.machine.mode ≡ true → next_move s ≡ x
    → (onlyToCall ≡ true → model.is_called x ≡ false)
    → advance_of onlyToCall (suc budget) s ≡ advance_of onlyToCall budget (ended x s)
unfolding advance_of model.calls_next step_effect
advance_on onlyToCall budget s x normal e passes =
    rw (normal, advance_of)
    (rw (e, and_false onlyToCall _ passes) (ap (λ (y : Move). advance_of onlyToCall budget (ended y s)) e))

-- no step
advance_off : (onlyToCall : Bool) (budget : ℕ) (s : State) → is_normal s.machine.mode ≡ false
    → advance_of onlyToCall budget s ≡ rest s budget None
unfolding advance_of
advance_off onlyToCall zero s e = refl
advance_off onlyToCall (suc budget) s e = rw (e, advance_of)

-- a step after which there is none
by_end : (onlyToCall : Bool) (budget : ℕ) (s : State) (x : Move) → is_normal s.machine.mode ≡ true → next_move s ≡ x
    → model.is_called x ≡ false → is_normal (ended x s).machine.mode ≡ false
    → advance_of onlyToCall (suc budget) s ≡ rest (ended x s) budget None
by_end onlyToCall budget s x normal e passes stopped =
    advance_on onlyToCall budget s x normal e (λ only. passes) ∙ advance_off onlyToCall budget (ended x s) stopped

-- the call
by_call_lem : (onlyToCall : Bool) (budget : ℕ) (s : State) → is_normal s.machine.mode ≡ true → next_move s ≡ called
    → advance_of onlyToCall (suc budget) s ≡ after_stop onlyToCall true Called s budget
unfolding advance_of model.calls_next model.is_called step_effect ended after_stop ◌and◌
by_call_lem true budget s normal e =
    rw (normal, advance_of)
    (rw e (ap (λ (y : Move). rest (ended y s) budget (Some (made s.machine.current (argument s.machine 0)))) e))
by_call_lem false budget s normal e = advance_on false budget s called normal e (λ only. absurd (false≢true only))

-- a step of the machine is one of the burst, where the rest of the budget is the rest of the burst
by_move : (onlyToCall : Bool) (m : Machine) (budget : ℕ) (file : Registers) (memory : List ℕ) → is_normal m.mode ≡ true
    → ((next : Registers) (after : List ℕ)
    → advance_of onlyToCall budget (state (with_own m next) after) ≡ after_burst onlyToCall m (burst_of (rights m) budget next after))
    → (x : Move) → next_move (state (with_own m file) memory) ≡ x
    → advance_of onlyToCall (suc budget) (state (with_own m file) memory)
    ≡ after_burst onlyToCall m (go_on (ends x file memory).stop (ends x file memory) budget (burst_of (rights m) budget))
unfolding is_normal with_own ended fault halt model.is_called go_on ends by_call ended_by after_stop after_burst
by_move t m k file memory normal on (moved next after) e =
    advance_on t k _ (moved next after) normal e (λ only. refl)
    ∙ ap (λ (n : Machine). advance_of t k (state n after)) (own_again m file next)
    ∙ on next after
by_move t m k file memory normal on called e = by_call_lem t k _ normal e
by_move t m k file memory normal on faulted e = by_end t k _ faulted normal e refl refl
by_move t m k file memory normal on halted e = by_end t k _ halted normal e refl refl

-- from any registers of the current guest
resumes_with : (onlyToCall : Bool) (m : Machine) (budget : ℕ) (file : Registers) (memory : List ℕ)
    → m.current.0 < length m.registers → is_normal m.mode ≡ true
    → advance_of onlyToCall budget (state (with_own m file) memory) ≡ after_burst onlyToCall m (burst_of (rights m) budget file memory)
unfolding advance_of burst_of turn_of by_call ended_by after_stop after_burst
resumes_with t m zero file memory b normal = refl
resumes_with t m (suc k) file memory b normal =
    by_move t m k file memory normal
    (λ next after. resumes_with t m k next after b normal)
    (guest_step (rights m) file memory)
    (own_move m file memory b)

pub resumes : (onlyToCall : Bool) (m : Machine) (budget : ℕ) (memory : List ℕ)
    → m.current.0 < length m.registers → is_normal m.mode ≡ true
    → advance_of onlyToCall budget (state m memory)
    ≡ after_burst onlyToCall m (burst_of (rights m) budget (own_registers m) memory)
resumes t m budget memory b normal =
    ap (λ (n : Machine). advance_of t budget (state n memory)) (sym (own_back m))
    ∙ resumes_with t m budget (own_registers m) memory b normal
