-- Which pages have an owner never changes, by no act and by no run, of any machine: a refused act changes nothing, and any
-- other is on a sound machine, where every page that gets a record has an owner already.
use Rattle.std.specs.Prelude.{Some}
use Prim.Native.Nat.{ℕ, zero, suc, ◌<◌}
use mathlib.Core.Path.{◌≡◌, refl, sym, ap, ◌∙◌}
use mathlib.Core.Bool.{Bool, true, false, cond}
use mathlib.Core.List.{List, [], ◌∷◌, map}
use native.Mathlib.Omega.{arith}
use lib.ListN.{get_or, replicate, get_or-map}
use lib.Seq.{map-set_same}
use Rattle.model.specs.declared.PageId.{PageId}
use Rattle.model.specs.declared.Handle.{Handle}
use Rattle.model.specs.declared.Registers.{Registers}
use Rattle.model.specs.declared.PageRecord.{PageRecord}
use Rattle.model.specs.declared.Kind.{Kind}
use Rattle.model.specs.declared.Deal.{Deal}
use Rattle.model.specs.declared.Transaction.{Transaction}
use Rattle.model.specs.declared.Machine.{Machine}
use Rattle.model.specs.Constants.{HANDLES, RETRIEVE}
use Rattle.model.specs.Tests.{counted, set_each}
use Rattle.model.specs.Answer.{is_done}
use Rattle.model.specs.State.{State, state, with_registers, record_at, transaction_at, page_at, count_in, count_of}
use Rattle.model.specs.Shaped.{Shaped}
use Rattle.model.specs.Row.{donates, receives, owned_row, free_row, row}
use Rattle.model.specs.Sound.{Sound}
use Rattle.model.specs.Reply.{passes, with_error, succeeded, woken, handed_over}
use Rattle.model.specs.Poll.{polled}
use Rattle.model.specs.Send.{notified, delivered}
use Rattle.model.specs.Deeds.{recorded, settled, marked, retrieved, relinquished, reclaimed}
use Rattle.model.specs.Sending.{sent_count, sending_verdict, sent_deal, sent_transaction, sent, with_handle}
use Rattle.model.specs.Step.{with_own, hvc, fault, halt}
use Rattle.model.specs.Entries.{check_of, run_of}
use Rattle.model.specs.Act.{Act, step, call, after, after_all}
use Rattle.model.specs.Kept.{is_owned, owned_at, owned_pages, OwnersKept}
use Rattle.model.specs.RunSteps.{stepped}
use Rattle.model.proofs.Entries.{is_done_lem, done_sound}
use Rattle.model.proofs.Sending.{passed, sent_at}
use Rattle.model.proofs.Due.{at_held, page_row}
use Rattle.model.proofs.Cases.{own_handle, OnHandle, CallCase, was_refused, did_run, did_hand_over, did_poll, did_send, did_send_pages, did_retrieve, did_relinquish, did_reclaim, StepCase, did_move, did_store, did_call, did_fault, did_halt}
use Rattle.model.proofs.Calls.{call_case}
use Rattle.model.proofs.Steps.{step_case}
use Rattle.model.proofs.Acts.{effect_of, after_either, done_accepted, went_refused}
use Rattle.model.proofs.RunSteps.{run_is_its_steps}

-- Lists that look alike under a function do so at each place, and values set where they look like what was there keep it so.

alike_at : {A B : Type 0} (f : A → B) (k l : List A) → map f k ≡ map f l → (i : ℕ) (d : A) → f (get_or k i d) ≡ f (get_or l i d)
alike_at f k l e i d = sym (get_or-map f k i d) ∙ ap (λ (x : List _). get_or x i (f d)) e ∙ get_or-map f l i d

map_set_each : {A B : Type 0} (f : A → B) (n : ℕ) (place : ℕ → ℕ) (value : ℕ → A) (l : List A) (d : A)
    → ((i : ℕ) → i < n → f (value i) ≡ f (get_or l (place i) d))
    → map f (set_each n place value l) ≡ map f l
unfolding set_each
map_set_each f zero place value l d h = refl
map_set_each f (suc n) place value l d h =
    let lower = map_set_each f n place value l d (λ i b. h i (omega arith)) in
    map-set_same f (set_each n place value l) (place n) (value n) d
    (h n (omega arith) ∙ alike_at f l (set_each n place value l) (sym lower) (place n) d)
    ∙ lower

-- Machines with the same pages owned.

-- the record has an owner
abbrev owned : PageRecord → Bool
owned r = is_owned r.owner

abbrev SameOwners : Machine → Machine → Type 0
SameOwners m k = (k.m ≡ m.m) × (map owned k.records ≡ map owned m.records)

same_count : (m k : Machine) → SameOwners m k → owned_pages k ≡ owned_pages m
unfolding record_at owned_at owned_pages
same_count m k same =
    let at : (p : ℕ) → owned_at k.records p ≡ owned_at m.records p = λ p. alike_at owned k.records m.records same.1 p _ in
    λ i. counted (same.0 i) (λ p. at p i)

-- Deeds.

settled_keeps : (m : Machine) (h : Handle) (new t : Transaction) (due : PageRecord) → owned due ≡ true
    → ((i : ℕ) → i < count_of t → owned (record_at m.records (page_at t i)) ≡ true)
    → SameOwners m (settled m h new t due)
unfolding record_at recorded settled
settled_keeps m h new t due e were =
    (refl, map_set_each owned (count_of t) (λ i. (page_at t i).0) (λ i. due) m.records _ (λ i b. e ∙ sym (were i b)))

-- a page of a transaction is its sender's
held_owned : (m : Machine) → Sound m → (h : Handle) (d : Deal) → h.0 < HANDLES → (transaction_at m.transactions h).deal ≡ Some d
    → (i : ℕ) → i < count_of (transaction_at m.transactions h)
    → owned (record_at m.records (page_at (transaction_at m.transactions h) i)) ≡ true
unfolding row is_owned
held_owned m sound h d b live i c = ap owned (page_row m sound h d _ b live (at_held (transaction_at m.transactions h) i c))

-- a page of a sending is the caller's
sent_owned : (kind : Kind) (s : State) → sending_verdict kind s ≡ passes
    → (i : ℕ) → i < sent_count s → owned (record_at s.machine.records (page_at (sent_transaction kind s) i)) ≡ true
unfolding free_row is_owned
sent_owned kind s e i b =
    ap (λ (p : PageId). owned (record_at s.machine.records p)) (sent_at kind s e i b) ∙ ap owned ((passed kind s e).own i b)

-- Calls: of a sound machine, perhaps with other registers.

module _ (s : State) (files : List Registers) (sound : Sound s.machine) where
  abbrev from : State
  from = state (with_registers s.machine files) s.memory

  retrieved_owners : (d : Deal) → OnHandle from.machine RETRIEVE receives false d
      → SameOwners s.machine (retrieved from.machine (own_handle from.machine) d)
  unfolding retrieved free_row row is_owned
  retrieved_owners d c =
      settled_keeps from.machine _ _ _ _ (due (donates d.kind)) (held_owned s.machine sound _ d c.is_handle c.is_live)
    where
      due : (b : Bool) → owned (cond b (owned_row d.receiver) (row (marked d true))) ≡ true
      due true = refl
      due false = refl

  call_owners : (t : State) → CallCase from t → SameOwners s.machine t.machine
  unfolding with_error succeeded woken handed_over polled notified delivered with_handle sent sent_transaction sent_deal count_of count_in relinquished reclaimed free_row row is_owned
  call_owners t (was_refused code e) = rw e (refl, refl)
  call_owners t (did_run quiet b e) = rw e (refl, refl)
  call_owners t (did_hand_over why quiet e) = rw e (refl, refl)
  call_owners t (did_poll quiet e) = rw e (refl, refl)
  call_owners t (did_send is passed e) = rw e (refl, refl)
  call_owners t (did_send_pages kind is passed e) =
      rw e (settled_keeps from.machine _ _ (sent_transaction kind from) _ refl (sent_owned kind from passed))
  call_owners t (did_retrieve d c e) = rw e (retrieved_owners d c)
  call_owners t (did_relinquish d c e) =
      rw e (settled_keeps from.machine _ _ _ _ refl (held_owned s.machine sound _ d c.is_handle c.is_live))
  call_owners t (did_reclaim d c e) =
      rw e (settled_keeps from.machine _ _ _ _ refl (held_owned s.machine sound _ d c.is_handle c.is_live))

-- Steps, acts and runs.

step_owners : (s : State) → Sound s.machine → (t : State) → StepCase s t → SameOwners s.machine t.machine
unfolding with_own hvc fault halt
step_owners s sound t (did_move file aims long e) = rw e (refl, refl)
step_owners s sound t (did_store x v aims may e) = rw e (refl, refl)
step_owners s sound t (did_call aims e) = rw e (call_owners s _ sound _ (call_case _))
step_owners s sound t (did_fault e) = rw e (refl, refl)
step_owners s sound t (did_halt e) = rw e (refl, refl)

effect_owners : (a : Act) (s : State) → Sound s.machine → SameOwners s.machine (effect_of a s).machine
unfolding effect_of
effect_owners step s sound = step_owners s sound _ (step_case s)
effect_owners call s sound = call_owners s s.machine.registers sound _ (call_case s)

act_owners : (a : Act) (s : State) → SameOwners s.machine (after a s).machine
act_owners a s =
    after_either (λ t. SameOwners s.machine t.machine) a s (refl, refl) (λ e.
    effect_owners a s (done_sound s.machine s.memory (done_accepted a s e).0))

acts_owners : (acts : List Act) (s : State) → SameOwners s.machine (after_all acts s).machine
unfolding after_all
acts_owners [] s = (refl, refl)
acts_owners (a ∷ rest) s =
    let one = act_owners a s in
    let more = acts_owners rest (after a s) in
    (more.0 ∙ one.0, more.1 ∙ one.1)

-- a run is refused, or it is its steps
run_owners : (s : State) → Shaped s.machine → (budget : ℕ)
    → SameOwners s.machine (run_of s.machine s.memory budget).result.machine
unfolding run_of stepped
run_owners s shaped budget = go (is_done (check_of s.machine s.memory)) refl
  where
    go : (b : Bool) → is_done (check_of s.machine s.memory) ≡ b
        → SameOwners s.machine (run_of s.machine s.memory budget).result.machine
    go true e =
        let all = run_is_its_steps s (record { shaped = shaped; answers_0 = is_done_lem _ e }) budget in
        let kept = acts_owners (replicate (run_of s.machine s.memory budget).result.count step) s in (
          ap (λ (t : State). t.machine.m) all.is_stepped ∙ kept.0,
          ap (λ (t : State). map owned t.machine.records) all.is_stepped ∙ kept.1,
        )
    go false e = rw (went_refused (check_of s.machine s.memory) budget s e) (refl, refl)

pub owners_kept : (s : State) → OwnersKept s
owners_kept s =
    record {
      over_acts = λ acts. same_count s.machine _ (acts_owners acts s);
      over_a_run = λ shaped budget. same_count s.machine _ (run_owners s shaped budget);
    }
