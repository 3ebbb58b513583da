-- The events of calls and of acts that do nothing, each read off the state before and after.
use Prim.Native.Nat.{ℕ}
use mathlib.Core.Path.{◌≡◌, refl, sym, ap, ◌∙◌}
use mathlib.Core.Bool.{Bool, true, false}
use mathlib.Core.List.{List, []}
use lib.Dec.{eqb}
use borrow.Author.Tests.{eqb-true, eq-eqb}
use Rattle.isa.specs.Tests.{◌and◌}
use Rattle.model.specs.declared.VmId.{VmId}
use Rattle.model.specs.declared.Handle.{Handle}
use Rattle.model.specs.declared.Registers.{Registers}
use Rattle.model.specs.declared.Kind.{Kind}
use Rattle.model.specs.declared.Kind.TheVariants.{Donate, Lend, Share}
use Rattle.model.specs.Constants.{SUCCESS}
use Rattle.model.specs.Answer.{is_done}
use Rattle.model.specs.State.{State, state, registers_at, register, with_registers, argument, own_registers, own_mailbox, is_normal}
use Rattle.model.specs.Memory.{tx_words, tx_word}
use Rattle.model.specs.Sending.{sent_to, sent_base, sent_page, sent_length, sent_count}
use Rattle.model.specs.Call.{chosen}
use Rattle.model.specs.Act.{Act, after, entry_of, Event, Quiet, Stored, Retrieved, Relinquished, Reclaimed, Aim, other, storing, calling, aim, if_so, store_event, callers_in, sent_event, handle_event, tellings, no_event, call_event, event_of_aim, event_of}
use Rattle.isa.proofs.Tests.{and_intro}
use Rattle.model.proofs.Cases.{sending_number, Silent}
use Rattle.model.proofs.Calls.{chosen_first}

-- Calls.

-- what is told on a condition
so : (b : Bool) (event : Event) → b ≡ true → if_so b event ≡ event
unfolding if_so
so b event e = rw e

not_so : (b : Bool) (event : Event) → b ≡ false → if_so b event ≡ Quiet
unfolding if_so
not_so b event e = rw e

-- R0 afterwards is not that of success
pub not_successful : (s t : State) (v : ℕ) → callers_in s t 0 ≡ v → eqb v SUCCESS ≡ false → call_event s t ≡ Quiet
unfolding call_event
not_successful s t v e f = not_so (eqb (callers_in s t 0) SUCCESS) _ (rw e f)

pub successful : (s t : State) (number : ℕ) → argument s.machine 0 ≡ number → callers_in s t 0 ≡ SUCCESS
    → call_event s t ≡ chosen tellings no_event number s t
unfolding call_event
successful s t number a e =
    so (eqb (callers_in s t 0) SUCCESS) _ (eq-eqb _ _ e) ∙ ap (λ (w : ℕ). chosen tellings no_event w s t) a

-- whether or not, if it is nothing
so_nothing : (b : Bool) → if_so b Quiet ≡ Quiet
unfolding if_so
so_nothing true = refl
so_nothing false = refl

-- nothing is told of this call
pub silent : (s t : State) → Silent s.machine → call_event s t ≡ Quiet
unfolding call_event no_event
silent s t quiet = rw quiet (so_nothing (eqb (callers_in s t 0) SUCCESS))

-- pages were sent
pub told_sent : (kind : Kind) (s t : State) → argument s.machine 0 ≡ sending_number kind → callers_in s t 0 ≡ SUCCESS
    → call_event s t ≡ sent_event kind s t
unfolding chosen sending_number
told_sent Donate s t a e = successful s t _ a e
told_sent Lend s t a e = successful s t _ a e
told_sent Share s t a e = successful s t _ a e

-- what is told depends on the registers only by the caller's arguments
module _ (s t : State) (files : List Registers)
    (args : (i : ℕ) → argument (with_registers s.machine files) i ≡ argument s.machine i) where
  instead : State
  instead = state (with_registers s.machine files) s.memory

  Same : (State → State → Event) → Type 0
  Same event = event s t ≡ event instead t

  same_sent : (kind : Kind) → Same (sent_event kind)
  unfolding Same instead callers_in sent_event sent_count sent_length sent_to sent_page sent_base tx_word tx_words own_mailbox
  same_sent kind = rw (args 1)

  same_handle : (event : VmId → Handle → Event) → Same (handle_event event)
  unfolding Same instead handle_event
  same_handle event = rw (args 1)

  same_none : (number : ℕ) → Same (chosen [] no_event number)
  unfolding Same no_event chosen
  same_none number = refl

  same_told : (number : ℕ) → Same (chosen tellings no_event number)
  same_told number =
      chosen_first Same _ _ no_event number (λ e. same_sent Donate)
      (chosen_first Same _ _ no_event number (λ e. same_sent Lend)
      (chosen_first Same _ _ no_event number (λ e. same_sent Share)
      (chosen_first Same _ _ no_event number (λ e. same_handle Retrieved)
      (chosen_first Same _ _ no_event number (λ e. same_handle Relinquished)
      (chosen_first Same _ _ no_event number (λ e. same_handle Reclaimed) (same_none number))))))

  pub same_call : call_event s t ≡ call_event (state (with_registers s.machine files) s.memory) t
  unfolding Same instead call_event callers_in
  same_call = rw (args 0, same_told (argument s.machine 0))

-- Acts that leave the registers and complete no store.

success_silent : chosen tellings no_event SUCCESS ≡ no_event
unfolding chosen
success_silent = refl

-- R0 is as it was, and so is not both that of success and a call's
still_silent : (s t : State) → callers_in s t 0 ≡ argument s.machine 0 → call_event s t ≡ Quiet
still_silent s t e = go (eqb (callers_in s t 0) SUCCESS) refl
  where
    no_call : argument s.machine 0 ≡ SUCCESS → Silent s.machine
    no_call q = rw q success_silent

    go : (b : Bool) → eqb (callers_in s t 0) SUCCESS ≡ b → call_event s t ≡ Quiet
    go true p = silent s t (no_call (sym e ∙ eqb-true (callers_in s t 0) SUCCESS p))
    go false p = not_successful s t _ refl p

pub idle : (a : Act) (s : State) → (after a s).machine.registers ≡ s.machine.registers
    → is_done (entry_of a s).result.answer and is_normal (after a s).machine.mode ≡ false
    → event_of a s ≡ Quiet
unfolding event_of event_of_aim store_event callers_in argument own_registers
idle a s same incomplete = go (aim a s)
  where
    go : (x : Aim) → event_of_aim x a s ≡ Quiet
    go other = refl
    go (storing x v) = not_so _ _ incomplete
    go calling = still_silent s (after a s) (ap (λ (files : List Registers). register (registers_at files s.machine.current) 0) same)

-- The aim tells.

pub told_other : (a : Act) (s : State) → aim a s ≡ other → event_of a s ≡ Quiet
unfolding event_of event_of_aim
told_other a s e = rw e

pub told_stored : (a : Act) (s : State) (x v : ℕ) → aim a s ≡ storing x v
    → is_done (entry_of a s).result.answer ≡ true → is_normal (after a s).machine.mode ≡ true
    → event_of a s ≡ Stored s.machine.current x v
unfolding event_of event_of_aim store_event
told_stored a s x v e done normal = ap (λ (i : Aim). event_of_aim i a s) e ∙ so _ _ (and_intro done normal)

pub told_called : (a : Act) (s : State) → aim a s ≡ calling → event_of a s ≡ call_event s (after a s)
unfolding event_of event_of_aim
told_called a s e = rw e
