-- Every step and every call keeps a machine sound, so what the check accepts it accepts for ever.
use Prim.Native.Nat.{ℕ}
use mathlib.Core.Path.{◌≡◌, refl, ◌∙◌}
use mathlib.Core.List.{List, [], ◌∷◌}
use lib.ListN.{length, length-set}
use lib.Seq.{length-paste}
use borrow.Author.Tests.{eq-eqb}
use Rattle.model.specs.declared.Registers.{Registers}
use Rattle.model.specs.declared.Mode.TheVariants.{Fault, Halted}
use Rattle.model.specs.declared.Machine.{Machine}
use Rattle.model.specs.State.{State, state, own_registers}
use Rattle.model.specs.Memory.{tx_words}
use Rattle.model.specs.Execute.{advanced}
use Rattle.model.specs.Reply.{passes, with_error, succeeded, woken, handed_over}
use Rattle.model.specs.Poll.{polled}
use Rattle.model.specs.Send.{send_to, send_verdict, copied, delivered, notified}
use Rattle.model.specs.Deeds.{settled, retrieved, relinquished, reclaimed}
use Rattle.model.specs.Sending.{sent, with_handle}
use Rattle.model.specs.Call.{call_effect}
use Rattle.model.specs.Step.{with_own, hvc, fault, halt, step_effect}
use Rattle.model.specs.Entries.{judged, check_of}
use Rattle.model.specs.Act.{Act, step, call, after, after_all}
use Rattle.model.specs.Kept.{Fit, Kept, Accepted, StepKeepsSound, CallKeepsSound, AcceptedForEver}
use Rattle.model.proofs.Sound.{holds_sound}
use Rattle.model.proofs.Entries.{done_memory, done_sound}
use Rattle.model.proofs.Cases.{CallCase, was_refused, did_run, did_hand_over, did_poll, did_send, did_send_pages, did_retrieve, did_relinquish, did_reclaim}
use Rattle.model.proofs.Cases.{StepCase, did_move, did_store, did_call, did_fault, did_halt}
use Rattle.model.proofs.Calls.{call_case}
use Rattle.model.proofs.Steps.{step_case}
use Rattle.model.proofs.Acts.{effect_of, after_either}
use Rattle.model.proofs.Parts.{Good, own_eight, own_keeps, error_keeps, success_keeps, handle_keeps, current_keeps, mode_keeps, handed_over_keeps, notified_keeps, polled_keeps, delivered_keeps}
use Rattle.model.proofs.Pages.{retrieved_keeps, relinquished_keeps, reclaimed_keeps, sent_keeps}
use Rattle.model.proofs.Send.{send_fits}

-- Calls.

good : {s : State} → Fit s → Good s.machine
good fit = (fit.shaped, fit.sound)

-- what leaves the machine sound, its pages as many and memory as long, keeps the state fit
kept_by : {s t : State} {m : Machine} {memory : List ℕ} → Fit s → Good m → m.m ≡ s.machine.m → length memory ≡ length s.memory
    → t ≡ state m memory → Kept s t
kept_by fit (shaped, sound) pages long e =
    rw e (record { fit = record { shaped = shaped; whole = rw pages (long ∙ fit.whole); sound = sound }; as_long = long })

-- the words of a message go where words were
copied_length : (s : State) → Fit s → send_verdict s.machine ≡ passes → length (copied s) ≡ length s.memory
unfolding copied
copied_length s fit e =
    let fits = send_fits s fit.whole fit.sound e in
    length-paste s.memory _ (tx_words s) _ fits.0 fits.1

call_keeps : (s t : State) → Fit s → CallCase s t → Kept s t
unfolding with_error succeeded woken handed_over polled delivered notified settled retrieved relinquished reclaimed sent with_handle
call_keeps s t fit (was_refused code e) = kept_by fit (error_keeps s.machine (good fit) code) refl refl e
call_keeps s t fit (did_run quiet low e) = kept_by fit (current_keeps s.machine (good fit) _ low) refl refl e
call_keeps s t fit (did_hand_over why quiet e) =
    kept_by fit (handed_over_keeps _ (success_keeps s.machine (good fit)) why) refl refl e
call_keeps s t fit (did_poll quiet e) = kept_by fit (polled_keeps s.machine (good fit)) refl refl e
call_keeps s t fit (did_send number ok e) =
    kept_by fit (notified_keeps _ (success_keeps _ (delivered_keeps s.machine (good fit) ok)) (send_to s.machine))
    refl (copied_length s fit ok) e
call_keeps s t fit (did_send_pages kind number ok e) =
    kept_by fit (handle_keeps _ (success_keeps _ (sent_keeps kind s fit.shaped fit.sound ok)) _) refl refl e
call_keeps s t fit (did_retrieve d on e) =
    kept_by fit (success_keeps _ (retrieved_keeps s.machine fit.shaped fit.sound _ d on.is_handle on.is_live))
    refl refl e
call_keeps s t fit (did_relinquish d on e) =
    kept_by fit (success_keeps _ (relinquished_keeps s.machine fit.shaped fit.sound _ d on.is_handle on.is_live))
    refl refl e
call_keeps s t fit (did_reclaim d on e) =
    kept_by fit (success_keeps _ (reclaimed_keeps s.machine fit.shaped fit.sound _ d on.is_handle on.is_live))
    refl refl e

pub call_keeps_sound : CallKeepsSound
call_keeps_sound s fit = call_keeps s (call_effect s) fit (call_case s)

-- Steps.

-- the current guest with a file as long as its own, and memory as long
own_kept : {s t : State} {memory : List ℕ} → Fit s → (file : Registers) → length file.r ≡ length (own_registers s.machine).r
    → length memory ≡ length s.memory → t ≡ state (with_own s.machine file) memory → Kept s t
unfolding with_own
own_kept {s} fit file same long e =
    kept_by fit (own_keeps s.machine (good fit) file (same ∙ own_eight s.machine (good fit))) refl long e

-- a call after the caller's pc has gone on
hvc_keeps : (s : State) → Fit s → Kept s (hvc s)
unfolding hvc advanced
hvc_keeps s fit =
    let gone-on : Kept s (state (with_own s.machine (advanced (own_registers s.machine))) s.memory) =
    own_kept fit _ refl refl refl in
    let called = call_keeps_sound _ gone-on.fit in
    record { fit = called.fit; as_long = called.as_long ∙ gone-on.as_long }

step_keeps : (s t : State) → Fit s → StepCase s t → Kept s t
unfolding fault halt advanced
step_keeps s t fit (did_move file aims same e) = own_kept fit file same refl e
step_keeps s t fit (did_store x v aims may e) = own_kept fit _ refl (length-set s.memory x v) e
step_keeps s t fit (did_call aims e) = rw e (hvc_keeps s fit)
step_keeps s t fit (did_fault e) = kept_by fit (mode_keeps s.machine (good fit) Fault) refl refl e
step_keeps s t fit (did_halt e) = kept_by fit (mode_keeps s.machine (good fit) Halted) refl refl e

pub step_keeps_sound : StepKeepsSound
step_keeps_sound s fit = step_keeps s (step_effect s) fit (step_case s)

-- The check.

pub accepted_fit : (s : State) → Accepted s → Fit s
accepted_fit s accepted =
    record {
      shaped = accepted.shaped;
      whole = done_memory s.machine s.memory accepted.answers_0;
      sound = done_sound s.machine s.memory accepted.answers_0;
    }

pub fit_accepted : (s : State) → Fit s → Accepted s
unfolding check_of judged
fit_accepted s fit =
    record { shaped = fit.shaped; answers_0 = rw (eq-eqb _ _ fit.whole, holds_sound s.machine fit.sound) }

-- Acts.

effect_keeps_fit : (a : Act) (s : State) → Fit s → Fit (effect_of a s)
unfolding effect_of
effect_keeps_fit step s fit = (step_keeps_sound s fit).fit
effect_keeps_fit call s fit = (call_keeps_sound s fit).fit

pub act_keeps_fit : (a : Act) (s : State) → Fit s → Fit (after a s)
act_keeps_fit a s fit = after_either Fit a s fit (λ done. effect_keeps_fit a s fit)

pub act_keeps_accepted : (a : Act) (s : State) → Accepted s → Accepted (after a s)
act_keeps_accepted a s accepted = fit_accepted (after a s) (act_keeps_fit a s (accepted_fit s accepted))

pub accepted_for_ever : AcceptedForEver
unfolding after_all
accepted_for_ever s accepted [] = accepted
accepted_for_ever s accepted (a ∷ rest) = accepted_for_ever (after a s) (act_keeps_accepted a s accepted) rest
