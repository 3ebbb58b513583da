-- What a run keeps: a burst and a call leave a state fit and in normal mode, and a burst takes a step at least.
-- Assumes nothing.
use Rattle.std.proofs.Common.{◌≡◌, ℕ, zero, suc, ◌*◌, ◌<◌, ◌≤◌, List, length, refl, ap, ◌∙◌, arith}
use Rattle.model.specs.declared.Registers.{Registers}
use Rattle.model.specs.declared.Machine.{Machine}
use Rattle.model.specs.Constants.{PAGE, PAGES, GUESTS}
use Rattle.model.specs.State.{State, state, own_registers, own_mailbox}
use Rattle.model.specs.Rights.{Rights, rights}
use Rattle.model.specs.Execute.{Move, moved, called, faulted, halted, guest_step}
use Rattle.model.specs.Reply.{with_error, succeeded, woken, handed_over}
use Rattle.model.specs.Poll.{polled}
use Rattle.model.specs.Send.{delivered, notified}
use Rattle.model.specs.Deeds.{settled, retrieved, relinquished, reclaimed}
use Rattle.model.specs.Sending.{sent, with_handle}
use Rattle.model.specs.Call.{call_effect}
use Rattle.model.specs.Step.{with_own, ended, step_effect}
use Rattle.model.specs.Kept.{Fit}
use Rattle.model.proofs.State.{file_same}
use Rattle.model.proofs.Cases.{CallCase, was_refused, did_run, did_hand_over, did_poll, did_send, did_send_pages}
use Rattle.model.proofs.Cases.{did_retrieve, did_relinquish, did_reclaim}
use Rattle.model.proofs.Calls.{call_case}
use Rattle.model.proofs.Kept.{step_keeps_sound}
use Rattle.model.proofs.Parts.{own_keeps, own_eight}
use Rattle.exec.specs.declared.instruction.Stop.{Stop}
use Rattle.exec.specs.declared.instruction.Stop.TheVariants.{Moved, Called, Faulted, Halted}
use Rattle.exec.specs.Turn.{Turn, ends, turn_of}
use Rattle.exec.specs.Burst.{Burst, go_on, burst_of}
use Rattle.runs.proofs.Resumes.{own_again, own_back}

-- Numbers of a fit state.

module _ {s : State} (fit : Fit s) where
  pub current_below : s.machine.current.0 < GUESTS
  current_below = omega (arith, fit.sound.current_below, fit.sound.counts_in_range.eight_guests)

  pub current_file : s.machine.current.0 < length s.machine.registers
  current_file = omega (arith, current_below, fit.shaped.eight_files)

  pub pages_below : s.machine.m ≤ PAGES
  pages_below = fit.sound.counts_in_range.sixty_four_pages

  pub memory_below : length s.memory ≤ PAGE * PAGES
  memory_below = omega (arith, fit.whole, pages_below)

-- The current guest's registers, put back.

pub own_same : (m : Machine) (file : Registers) → m.current.0 < length m.registers → own_registers (with_own m file) ≡ file
unfolding own_registers with_own
own_same m file low = file_same m.registers m.current file low

-- with eight registers in it, the state stays fit
pub own_fits : (m : Machine) (memory : List ℕ) (file : Registers) → Fit (state m memory) → length file.r ≡ 8
    → Fit (state (with_own m file) memory)
unfolding with_own
own_fits m memory file fit eight =
    let good = own_keeps m (fit.shaped, fit.sound) file eight in
    record { shaped = good.0; whole = fit.whole; sound = good.1 }

pub fit_eight : (m : Machine) (memory : List ℕ) → Fit (state m memory) → length (own_registers m).r ≡ 8
fit_eight m memory fit = own_eight m (fit.shaped, fit.sound)

-- A burst.

module _ (m : Machine) (low : m.current.0 < length m.registers) where
  abbrev FitWith : Registers → List ℕ → Type 0
  FitWith file memory = Fit (state (with_own m file) memory)

  -- an instruction that moves on is a step
  moved_steps : (file next : Registers) (memory left : List ℕ) → guest_step (rights m) file memory ≡ moved next left
      → step_effect (state (with_own m file) memory) ≡ state (with_own m next) left
  unfolding step_effect ended rights own_mailbox with_own
  moved_steps file next memory left e =
      ap (λ (own : Registers). ended (guest_step (rights m) own memory) (state (with_own m file) memory)) (own_same m file low)
      ∙ ap (λ (move : Move). ended move (state (with_own m file) memory)) e
      ∙ ap (λ (k : Machine). state k left) (own_again m file next)

  burst_keeps : (budget : ℕ) (file : Registers) (memory : List ℕ) → FitWith file memory
      → FitWith (burst_of (rights m) budget file memory).last.file (burst_of (rights m) budget file memory).last.memory
  unfolding burst_of go_on turn_of ends
  burst_keeps zero file memory fit = fit
  burst_keeps (suc budget) file memory fit = go (burst_keeps budget) (guest_step (rights m) file memory) refl
    where
      go : ((next : Registers) (left : List ℕ) → FitWith next left
          → FitWith (burst_of (rights m) budget next left).last.file (burst_of (rights m) budget next left).last.memory)
          → (move : Move) → guest_step (rights m) file memory ≡ move
          → FitWith
          (go_on (ends move file memory).stop (ends move file memory) budget (burst_of (rights m) budget)).last.file
          (go_on (ends move file memory).stop (ends move file memory) budget (burst_of (rights m) budget)).last.memory
      go rest (moved next left) e = rest next left (rw (moved_steps file next memory left e) at (step_keeps_sound _ fit).fit)
      go rest called e = fit
      go rest faulted e = fit
      go rest halted e = fit

pub burst_fits : (m : Machine) (memory : List ℕ) (budget : ℕ) (b : Burst) → Fit (state m memory)
    → b ≡ burst_of (rights m) budget (own_registers m) memory → Fit (state (with_own m b.last.file) b.last.memory)
burst_fits m memory budget b fit e =
    rw e (burst_keeps m (current_file fit) budget (own_registers m) memory (rw (own_back m) fit))

-- A burst takes a step at least.

go_on_left : (stop : Stop) (t : Turn) (budget : ℕ) (rest : Registers → List ℕ → Burst)
    → ((file : Registers) (memory : List ℕ) → (rest file memory).left ≤ budget) → (go_on stop t budget rest).left ≤ budget
unfolding go_on
go_on_left Moved t budget rest few = few t.file t.memory
go_on_left Called t budget rest few = omega arith
go_on_left Faulted t budget rest few = omega arith
go_on_left Halted t budget rest few = omega arith

burst_more : (rights : Rights) (budget : ℕ) (file : Registers) (memory : List ℕ)
    → ((next : Registers) (left : List ℕ) → (burst_of rights budget next left).left ≤ budget)
    → (burst_of rights (suc budget) file memory).left ≤ budget
unfolding burst_of
burst_more rights budget file memory few = go_on_left _ _ budget (burst_of rights budget) few

burst_left : (rights : Rights) (budget : ℕ) (file : Registers) (memory : List ℕ) → (burst_of rights budget file memory).left ≤ budget
unfolding burst_of
burst_left rights zero file memory = omega arith
burst_left rights (suc budget) file memory = omega (arith, burst_more rights budget file memory (burst_left rights budget))

pub burst_takes : (rights : Rights) (budget : ℕ) (file : Registers) (memory : List ℕ) → 0 < budget
    → (burst_of rights budget file memory).left < budget
burst_takes rights zero file memory some = absurd (omega arith)
burst_takes rights (suc budget) file memory some = omega (arith, burst_more rights budget file memory (burst_left rights budget))

-- A call.

-- whatever the call, the mode stays
pub call_mode : (s : State) → (call_effect s).machine.mode ≡ s.machine.mode
unfolding with_error succeeded woken handed_over polled delivered notified settled retrieved relinquished reclaimed sent with_handle
call_mode s = go (call_effect s) (call_case s)
  where
    mode_of : {t : State} {m : Machine} {memory : List ℕ} → t ≡ state m memory → m.mode ≡ s.machine.mode
        → t.machine.mode ≡ s.machine.mode
    mode_of e same = ap (λ (k : State). k.machine.mode) e ∙ same

    go : (t : State) → CallCase s t → t.machine.mode ≡ s.machine.mode
    go t (was_refused code e) = mode_of e refl
    go t (did_run quiet low e) = mode_of e refl
    go t (did_hand_over why quiet e) = mode_of e refl
    go t (did_poll quiet e) = mode_of e refl
    go t (did_send number ok e) = mode_of e refl
    go t (did_send_pages kind number ok e) = mode_of e refl
    go t (did_retrieve d on e) = mode_of e refl
    go t (did_relinquish d on e) = mode_of e refl
    go t (did_reclaim d on e) = mode_of e refl
