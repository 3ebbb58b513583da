-- What a call does, in every state: one of the cases of `Cases.antt`.
use Rattle.std.specs.Prelude.{Option, None, Some}
use Prim.Native.Nat.{ℕ, ◌<◌}
use mathlib.Core.Path.{◌≡◌, refl, ◌∙◌, sym, ap}
use mathlib.Core.Bool.{Bool, true, false, cond, false≢true}
use mathlib.Core.List.{List, [], ◌∷◌}
use lib.Dec.{ltb, eqb}
use borrow.Author.Tests.{eqb-true, ltb-true}
use Rattle.model.specs.declared.VmId.{VmId}
use Rattle.model.specs.declared.Handle.{Handle}
use Rattle.model.specs.declared.Kind.{Kind}
use Rattle.model.specs.declared.Kind.TheVariants.{Donate, Lend, Share}
use Rattle.model.specs.declared.Deal.{Deal}
use Rattle.model.specs.declared.Transaction.{Transaction}
use Rattle.model.specs.declared.Machine.{Machine}
use Rattle.model.specs.Constants.{HANDLES, RUN, YIELD, POLL, WAIT, SEND, RETRIEVE, RELINQUISH, RECLAIM, NOT_SUPPORTED, INVALID}
use Rattle.model.specs.State.{State, state, handle, is_empty, own_inbox, argument, transaction_at}
use Rattle.model.specs.Row.{sends, receives}
use Rattle.model.specs.Reply.{Verdict, passes, refused, answer, succeeded, handed_over}
use Rattle.model.specs.Run.{run_verdict, run_effect}
use Rattle.model.specs.Yield.{yield_effect}
use Rattle.model.specs.Poll.{poll_effect}
use Rattle.model.specs.Wait.{wait_verdict, wait_effect}
use Rattle.model.specs.Send.{send_effect}
use Rattle.model.specs.Deeds.{retrieved, relinquished, reclaimed}
use Rattle.model.specs.Sending.{sending_effect}
use Rattle.model.specs.HandleCall.{found_in, lookup, handle_verdict, applied, own_found, handle_effect}
use Rattle.model.specs.Retrieve.{retrieve_effect}
use Rattle.model.specs.Relinquish.{relinquish_effect}
use Rattle.model.specs.Reclaim.{reclaim_effect}
use Rattle.model.specs.Call.{Choice, chosen, not_supported, call_effect}
use Rattle.model.specs.Act.{tellings, no_event}
use Rattle.isa.proofs.Tests.{and_right}
use Rattle.model.proofs.Tests.{agree_true}
use Rattle.model.proofs.Reply.{need_test, need_rest}
use Rattle.model.proofs.Cases.{sending_number, Silent, own_handle, OnHandle, CallCase, was_refused, did_run, did_hand_over, did_poll, did_send, did_send_pages, did_retrieve, did_relinquish, did_reclaim}

-- Choices and verdicts.

-- what holds of the first value, if the number is its own, and of what is chosen from the rest, holds of what is chosen
pub chosen_first : {A : Type 0} (P : A → Type 0) (c : Choice A) (rest : List (Choice A)) (otherwise : A) (w : ℕ)
    → (w ≡ c.number → P c.value) → P (chosen rest otherwise w) → P (chosen (c ∷ rest) otherwise w)
unfolding chosen
chosen_first P c rest otherwise w here there = go (eqb w c.number) refl
  where
    go : (b : Bool) → eqb w c.number ≡ b → P (elim b [ true ↦ c.value | false ↦ chosen rest otherwise w ])
    go true e = here (eqb-true w c.number e)
    go false e = there

refusal : (code : ℕ) (s done : State) → CallCase s (answer (refused code) s done)
unfolding answer
refusal code s done = was_refused code refl

-- a call is refused, or its verdict passes and it does what it does
answered : (v : Verdict) (s : State) {done : State} → (v ≡ passes → CallCase s done) → CallCase s (answer v s done)
unfolding answer
answered passes s h = h refl
answered (refused code) s {done} h = refusal code s done

-- a number of which no event tells
silent : (m : Machine) {w : ℕ} → argument m 0 ≡ w → chosen tellings no_event w ≡ no_event → Silent m
silent m e q = rw e q

-- Calls that move no page.

run_case : (s : State) → argument s.machine 0 ≡ RUN → CallCase s (run_effect s)
unfolding run_effect run_verdict chosen
run_case s e =
    answered (run_verdict s.machine) s (λ p.
    did_run (silent s.machine e refl) (ltb-true _ _ (and_right _ _ (need_test _ _ _ (need_rest _ _ _ p)))) refl)

yield_case : (s : State) → argument s.machine 0 ≡ YIELD → CallCase s (yield_effect s)
unfolding yield_effect chosen
yield_case s e = did_hand_over YIELD (silent s.machine e refl) refl

-- a guest takes its message, by Poll or by Wait
taking_case : (s : State) → Silent s.machine → CallCase s (poll_effect s)
unfolding poll_effect
taking_case s q = answered _ s (λ p. did_poll q refl)

poll_case : (s : State) → argument s.machine 0 ≡ POLL → CallCase s (poll_effect s)
unfolding chosen
poll_case s e = taking_case s (silent s.machine e refl)

wait_case : (s : State) → argument s.machine 0 ≡ WAIT → CallCase s (wait_effect s)
unfolding wait_effect chosen
wait_case s e = go (is_empty (own_inbox s.machine))
  where
    quiet : Silent s.machine
    quiet = silent s.machine e refl

    handed_over_lem : State
    handed_over_lem = state (handed_over (succeeded s.machine) WAIT) s.memory

    go : (b : Bool) → CallCase s (cond b (answer (wait_verdict s.machine) s handed_over_lem) (poll_effect s))
    go true = answered _ s (λ p. did_hand_over WAIT quiet refl)
    go false = taking_case s quiet

send_case : (s : State) → argument s.machine 0 ≡ SEND → CallCase s (send_effect s)
unfolding send_effect
send_case s e = answered _ s (λ p. did_send e p refl)

-- Calls that send pages.

sending_case : (kind : Kind) (s : State) → argument s.machine 0 ≡ sending_number kind → CallCase s (sending_effect kind s)
unfolding sending_effect
sending_case kind s e = answered _ s (λ p. did_send_pages kind e p refl)

-- Calls on a handle.

-- a word that finds a deal is a live handle's
pub lookup_live : (transactions : List Transaction) (w : ℕ) (h : Handle) (d : Deal) → lookup transactions w ≡ Some (h, d)
    → (w < HANDLES) × (h ≡ handle w) × ((transaction_at transactions (handle w)).deal ≡ Some d)
unfolding lookup found_in
lookup_live transactions w h d e = in_range (ltb w HANDLES) (transaction_at transactions (handle w)).deal refl refl e
  where
    in_range : (b : Bool) (there : Option Deal) → ltb w HANDLES ≡ b → (transaction_at transactions (handle w)).deal ≡ there
        → cond b (found_in (handle w) there) None ≡ Some (h, d)
        → (w < HANDLES) × (h ≡ handle w) × ((transaction_at transactions (handle w)).deal ≡ Some d)
    in_range true None b q e = absurd (false≢true cc)
    in_range true (Some found) b q e =
        let same : ◌≡◌ {A = Handle × Deal} (handle w, found) (h, d) = cc in
        (ltb-true _ _ b, sym (ap (λ p. p.0) same), q ∙ ap (λ p. Some p.1) same)
    in_range false there b q e = absurd (false≢true cc)

-- the call of this number on a handle: who may, the mark that it wants, and its deed
handle_case : (number : ℕ) (may : Deal → VmId → Bool) (mark : Bool) (deed : Machine → Handle → Deal → Machine) (s : State)
    → argument s.machine 0 ≡ number
    → ((d : Deal) → OnHandle s.machine number may mark d → CallCase s (state (succeeded (deed s.machine (own_handle s.machine) d)) s.memory))
    → CallCase s (handle_effect may mark deed s)
unfolding handle_effect handle_verdict applied own_found
handle_case number may mark deed s by_number done = go (own_found s.machine) refl
  where
    m : Machine
    m = s.machine

    go : (found : Option (Handle × Deal)) → own_found m ≡ found
        → CallCase s (answer (handle_verdict may mark m found) s (state (succeeded (applied deed m found)) s.memory))
    go None e = refusal INVALID s _
    go (Some (h, d)) e =
        let found = lookup_live m.transactions (argument m 1) h d e in
        rw found.1 (answered _ s (λ p.
        done d (record {
          by_number = by_number;
          is_handle = found.0;
          is_live = found.2;
          is_party = need_test _ _ _ p;
          is_marked = agree_true _ _ (need_test _ _ _ (need_rest _ _ _ p));
        })))

retrieve_case : (s : State) → argument s.machine 0 ≡ RETRIEVE → CallCase s (retrieve_effect s)
unfolding retrieve_effect
retrieve_case s e = handle_case RETRIEVE receives false retrieved s e (λ d on. did_retrieve d on refl)

relinquish_case : (s : State) → argument s.machine 0 ≡ RELINQUISH → CallCase s (relinquish_effect s)
unfolding relinquish_effect
relinquish_case s e = handle_case RELINQUISH receives true relinquished s e (λ d on. did_relinquish d on refl)

reclaim_case : (s : State) → argument s.machine 0 ≡ RECLAIM → CallCase s (reclaim_effect s)
unfolding reclaim_effect
reclaim_case s e = handle_case RECLAIM sends false reclaimed s e (λ d on. did_reclaim d on refl)

-- Any call.

not_supported_case : (s : State) → CallCase s (chosen [] not_supported (argument s.machine 0) s)
unfolding chosen not_supported
not_supported_case s = refusal NOT_SUPPORTED s s

-- the first call of a list, or one of the rest
next_call : (s : State) (c : Choice (State → State)) (rest : List (Choice (State → State)))
    → (argument s.machine 0 ≡ c.number → CallCase s (c.value s))
    → CallCase s (chosen rest not_supported (argument s.machine 0) s)
    → CallCase s (chosen (c ∷ rest) not_supported (argument s.machine 0) s)
next_call s c rest = chosen_first (λ effect. CallCase s (effect s)) c rest not_supported (argument s.machine 0)

pub call_case : (s : State) → CallCase s (call_effect s)
unfolding call_effect sending_number
call_case s =
    next_call s _ _ (run_case s)
    (next_call s _ _ (yield_case s)
    (next_call s _ _ (poll_case s)
    (next_call s _ _ (wait_case s)
    (next_call s _ _ (send_case s)
    (next_call s _ _ (sending_case Donate s)
    (next_call s _ _ (sending_case Lend s)
    (next_call s _ _ (sending_case Share s)
    (next_call s _ _ (retrieve_case s)
    (next_call s _ _ (relinquish_case s)
    (next_call s _ _ (reclaim_case s)
    (not_supported_case s)))))))))))
