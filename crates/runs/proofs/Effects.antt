-- What is left to be done after Yield and Run in place, and the model's call: where the caller's registers are put back and
-- the rest is done, the state is the one that the call leaves.
use Rattle.std.proofs.Common.{◌≡◌, ℕ, ◌<◌, Bool, true, false, cond, eqb, ltb, leb, List, length, get_or, set, sym, refl, ap, ◌∙◌, arith, set-set, eqb-true}
use Rattle.isa.specs.Tests.{◌and◌}
use Rattle.model.specs.declared.VmId.{VmId}
use Rattle.model.specs.declared.Registers.{Registers}
use Rattle.model.specs.declared.Machine.{Machine}
use Rattle.model.specs.Constants.{SUCCESS, YIELD, RUN, DENIED, INVALID}
use Rattle.model.specs.State.{State, state, primary, is_primary, registers_at, register, with_register, written, with_registers, with_current, own_registers, argument}
use Rattle.model.specs.Reply.{refused, with_error, succeeded, handed_over}
use Rattle.model.specs.Run.{run_verdict, run_effect}
use Rattle.model.specs.Yield.{yield_effect}
use Rattle.model.specs.Call.{chosen, calls, not_supported, call_effect}
use Rattle.model.specs.Step.{with_own}
use Rattle.model.proofs.State.{length_written, written_same}
use Rattle.parts.proofs.Answers.{need_fails, need_passes, refusal, success, woken_primary, handed_secondary}
use Rattle.exec.specs.declared.switch.Switch.TheVariants.{Other, Stay, Wake, To}
use Rattle.exec.specs.Turn.{file_of}
use Rattle.runs.specs.Advance.{told_of}
use Rattle.exec.specs.Switch.{Switched, switched, refused_with, yield_switch, run_switch, switch_of}

-- what holds of both sides of a choice holds of what is chosen
either : {A : Type 0} (P : A → Type 0) (b : Bool) {x y : A} → (b ≡ true → P x) → (b ≡ false → P y) → P (cond b x y)
either P true here there = here refl
either P false here there = there refl

-- two registers of one guest are written: its file is put back once
written_twice : (files : List Registers) (g : VmId) (i v j w : ℕ) → g.0 < length files
    → written (written files g i v) g j w ≡ set files g.0 (with_register (with_register (registers_at files g) i v) j w)
unfolding written
written_twice files g i v j w h =
    ap (λ (file : Registers). set (written files g i v) g.0 (with_register file j w)) (written_same files g i v h)
    ∙ set-set files g.0 _ _

-- the call with this number
called_at : (s : State) {n : ℕ} → argument s.machine 0 ≡ n → call_effect s ≡ chosen calls not_supported n s
unfolding call_effect
called_at s q = ap (λ (w : ℕ). chosen calls not_supported w s) q

-- the caller's file with these registers
abbrev pub put_back : Machine → List ℕ → Registers
put_back m r = file_of r (own_registers m).pc (own_registers m).equal

-- the machine with these files once guest 0 is current, and knows who yielded
abbrev pub woken_by : Machine → List Registers → Machine
woken_by m files =
    with_current (with_registers m (set files 0 (told_of (registers_at files primary) m.current))) primary

module _ (m : Machine) (memory : List ℕ) where
  -- what the call leaves, by what is left to be done
  abbrev Leaves : Switched → Type 0
  Leaves x =
      elim x.next [
        | Other ↦ x.r ≡ (own_registers m).r
        | Stay ↦ call_effect (state m memory) ≡ state (with_own m (put_back m x.r)) memory
        | Wake ↦
            call_effect (state m memory) ≡ state (woken_by m (set m.registers m.current.0 (put_back m x.r))) memory
        | To g ↦ (x.r ≡ (own_registers m).r) × (call_effect (state m memory) ≡ state (with_current m g) memory)
      ]

  module _ (inside : m.current.0 < length m.registers) where
    refused_leaves : (code : ℕ) → call_effect (state m memory) ≡ state (with_error m code) memory
        → Leaves (refused_with (own_registers m).r code)
    unfolding refused_with with_error with_own own_registers
    refused_leaves code e =
        e ∙ ap (λ (files : List Registers). state (with_registers m files) memory) (written_twice m.registers m.current 0 _ 2 code inside)

    yield_leaves : argument m 0 ≡ YIELD → Leaves (yield_switch (own_registers m).r m.current)
    unfolding chosen yield_switch yield_effect succeeded handed_over written with_own own_registers told_of
    yield_leaves q =
        either (λ next. Leaves (switched next (set (own_registers m).r 0 SUCCESS))) (is_primary m.current)
        (λ by. called_at (state m memory) q ∙ ap with_memory (woken_primary (succeeded m) _ by))
        (λ by. called_at (state m memory) q ∙ ap with_memory (sym (handed_secondary (succeeded m) YIELD by refl (sym told_once))))
      where
        with_memory : Machine → State
        with_memory after = state after memory

        told_once :
            written (written (succeeded m).registers primary 0 YIELD) primary 1 m.current.0
            ≡ set (succeeded m).registers 0 (told_of (registers_at (succeeded m).registers primary) m.current)
        told_once =
            written_twice (succeeded m).registers primary 0 YIELD 1 m.current.0
            (omega (arith, length_written m.registers m.current 0 SUCCESS))

    run_leaves : argument m 0 ≡ RUN → Leaves (run_switch (own_registers m).r m.current m.n)
    unfolding chosen run_switch run_effect run_verdict argument register
    run_leaves q =
        either Leaves (is_primary m.current)
        (λ by.
        either Leaves (leb 1 (get_or (own_registers m).r 1 0) and ltb (get_or (own_registers m).r 1 0) m.n)
        (λ in_range. (refl, called_at (state m memory) q ∙ sym (success _ (need_passes _ _ by ∙ need_passes _ _ in_range))))
        (λ out. refused_run INVALID (need_passes _ _ by ∙ need_fails _ _ out)))
        (λ by. refused_run DENIED (need_fails _ _ by))
      where
        refused_run : (code : ℕ) → run_verdict m ≡ refused code → Leaves (refused_with (own_registers m).r code)
        refused_run code e = refused_leaves code (called_at (state m memory) q ∙ sym (refusal m memory _ e))

    switch_leaves : Leaves (switch_of (own_registers m).r m.current m.n)
    unfolding switch_of argument register
    switch_leaves =
        either Leaves (eqb (get_or (own_registers m).r 0 0) YIELD)
        (λ q. yield_leaves (eqb-true (argument m 0) YIELD q))
        (λ p. either Leaves (eqb (get_or (own_registers m).r 0 0) RUN) (λ q. run_leaves (eqb-true (argument m 0) RUN q)) (λ q. refl))

    pub switch_other : {r : List ℕ} → switch_of (own_registers m).r m.current m.n ≡ switched Other r → r ≡ (own_registers m).r
    switch_other e = rw e at switch_leaves

    pub switch_stay : {r : List ℕ} → switch_of (own_registers m).r m.current m.n ≡ switched Stay r
        → call_effect (state m memory) ≡ state (with_own m (put_back m r)) memory
    switch_stay e = rw e at switch_leaves

    pub switch_to : {g : VmId} {r : List ℕ} → switch_of (own_registers m).r m.current m.n ≡ switched (To g) r
        → (r ≡ (own_registers m).r) × (call_effect (state m memory) ≡ state (with_current m g) memory)
    switch_to e = rw e at switch_leaves

    pub switch_wake : {r : List ℕ} → switch_of (own_registers m).r m.current m.n ≡ switched Wake r
        → call_effect (state m memory) ≡ state (woken_by m (set m.registers m.current.0 (put_back m r))) memory
    switch_wake e = rw e at switch_leaves
