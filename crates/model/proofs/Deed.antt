-- What an act does, with its event: the cases by which the promises over time are proved. For every act in every shaped
-- state, refused ones too.
use Rattle.std.specs.Prelude.{Some}
use Prim.Native.Nat.{ℕ, zero, suc, ◌*◌, ◌<◌}
use mathlib.Core.Path.{◌≡◌, refl, sym, ap, ◌∙◌}
use mathlib.Core.Bool.{Bool, true, false, cond, false≢true}
use mathlib.Core.List.{List}
use mathlib.Core.Logic.{inl, inr}
use native.Mathlib.Omega.{arith}
use lib.ListN.{length, set}
use borrow.Author.Tests.{eqb-false}
use Rattle.isa.specs.Tests.{◌and◌}
use Rattle.model.specs.declared.VmId.{VmId}
use Rattle.model.specs.declared.PageId.{PageId}
use Rattle.model.specs.declared.Handle.{Handle}
use Rattle.model.specs.declared.Kind.{Kind}
use Rattle.model.specs.declared.Registers.{Registers}
use Rattle.model.specs.declared.Deal.{Deal}
use Rattle.model.specs.declared.PageRecord.{PageRecord}
use Rattle.model.specs.declared.Transaction.{Transaction}
use Rattle.model.specs.declared.Mode.{Mode}
use Rattle.model.specs.declared.Mode.TheVariants.{Fault, Halted}
use Rattle.model.specs.declared.Machine.{Machine}
use Rattle.model.specs.declared.Access.TheVariants.{Allowed}
use Rattle.model.specs.declared.Answer.TheVariants.{Done}
use Rattle.model.specs.Constants.{PAGE, HANDLES, ERROR, SUCCESS, SEND, RETRIEVE, RELINQUISH, RECLAIM}
use Rattle.model.specs.Tests.{listed}
use Rattle.model.specs.State.{State, state, vm, handle, same_vm, primary, is_primary, registers_at, register, written, argument, own_registers, with_registers, with_mode, is_normal, record_at, transaction_at, count_in, count_of}
use Rattle.model.specs.Row.{sends, receives, owned_row}
use Rattle.model.specs.Table.{deal}
use Rattle.model.specs.Due.{holds}
use Rattle.model.specs.Rights.{rights, access}
use Rattle.model.specs.Memory.{loaded}
use Rattle.model.specs.Send.{send_to, send_verdict, delivered, notified, copied}
use Rattle.model.specs.Deeds.{settled, retrieved, relinquished, reclaimed}
use Rattle.model.specs.Sending.{sent_to, sent_page, sent_count, is_free, lowest_free, sending_verdict, sent_deal, sent_transaction, sent, with_handle}
use Rattle.model.specs.Reply.{passes, with_error, succeeded, told, handed_over, woken}
use Rattle.model.specs.Poll.{polled}
use Rattle.model.specs.Call.{chosen}
use Rattle.model.specs.Act.{is_in, Act, step, call, entry_of, after, calling, aim, callers_in, tellings, no_event, sent_event, handle_event, call_event, Event, Quiet, Stored, Sent, Retrieved, Relinquished, Reclaimed, event_of}
use Rattle.model.specs.Answer.{is_done}
use Rattle.model.specs.Shaped.{Shaped}
use Rattle.model.specs.Execute.{advanced}
use Rattle.model.specs.Step.{with_own, hvc, fault, halt}
use Rattle.model.specs.Entries.{check_of}
use Rattle.model.specs.Honest.{SendsMessage}
use Rattle.isa.proofs.Tests.{not_both, and_false, or_either, or_left, or_right}
use Rattle.model.proofs.Tests.{at_some, same_test, length_listed}
use Rattle.model.proofs.State.{file_same, Sized, shaped_sized, written_sized, written_at, written_beside, written_other}
use Rattle.model.proofs.Same.{same_page_true, eq_same_page}
use Rattle.model.proofs.Due.{held_at}
use Rattle.model.proofs.Send.{message_passed, other_pages_stay}
use Rattle.model.proofs.Sending.{passed, free_at_lowest, sent_at}
use Rattle.model.proofs.Entries.{done_memory, done_sound}
use Rattle.model.proofs.Calls.{call_case}
use Rattle.model.proofs.Steps.{step_case}
use Rattle.model.proofs.Acts.{effect_of, after_refused, after_done, done_accepted}
use Rattle.model.proofs.Parts.{Good, own_eight, own_keeps}
use Rattle.model.proofs.Events.{told_called, same_call, not_successful, successful, silent, told_sent, idle, told_other, told_stored}
use Rattle.model.proofs.Cases.{Silent, own_handle, OnHandle, CallCase, was_refused, did_run, did_hand_over, did_poll, did_send, did_send_pages, did_retrieve, did_relinquish, did_reclaim, sending_number, StepCase, did_move, did_store, did_call, did_fault, did_halt}

-- The cases.

-- the act leaves these transactions and page records
pub record Leaves (a : Act) (s : State) (m : Machine) : Type 0 where
  pub transactions : (after a s).machine.transactions ≡ m.transactions
  pub records : (after a s).machine.records ≡ m.records

-- handle h, which was free, has the transaction new: guest i's deal with j over pages that were its own
pub record PagesSent (transactions : List Transaction) (records : List PageRecord)
    (k : Kind) (i j : VmId) (h : Handle) (ps : List PageId) (new : Transaction) : Type 0 where
  pub is_handle : h.0 < HANDLES
  pub was_free : is_free (transaction_at transactions h).deal ≡ true
  pub is_deal : new.deal ≡ Some (deal i j k false (length ps))
  pub just_these : (p : PageId) → holds new p ≡ is_in p ps
  pub were_own : (p : PageId) → is_in p ps ≡ true → record_at records p ≡ owned_row i

-- handle h has the deal d, the current guest is the party that may, and the mark is as it must be
pub record Handled (m : Machine) (may : Deal → VmId → Bool) (mark : Bool) (h : Handle) (d : Deal) : Type 0 where
  pub is_handle : h.0 < HANDLES
  pub is_live : (transaction_at m.transactions h).deal ≡ Some d
  pub is_party : may d m.current ≡ true
  pub is_marked : d.retrieved ≡ mark

pub data Deed (a : Act) (s : State) : Type 0 where
  did_nothing : event_of a s ≡ Quiet → Leaves a s s.machine → (after a s).memory ≡ s.memory → Deed a s
  stored_it :
      (x v : ℕ) → event_of a s ≡ Stored s.machine.current x v
      → access (rights s.machine).stores s.memory x ≡ Allowed
      → Leaves a s s.machine → (after a s).memory ≡ set s.memory x v → Deed a s
  sent_message :
      event_of a s ≡ Quiet → (send_to s.machine).0 < s.machine.n → SendsMessage a s → Leaves a s s.machine → Deed a s
  sent_pages :
      (k : Kind) (j : VmId) (h : Handle) (ps : List PageId) (new : Transaction)
      → event_of a s ≡ Sent k s.machine.current j h ps
      → PagesSent s.machine.transactions s.machine.records k s.machine.current j h ps new
      → (after a s).machine.transactions ≡ set s.machine.transactions h.0 new
      → (after a s).memory ≡ s.memory → Deed a s
  retrieved_it :
      (h : Handle) (d : Deal) → event_of a s ≡ Retrieved s.machine.current h → Handled s.machine receives false h d
      → Leaves a s (retrieved s.machine h d) → (after a s).memory ≡ s.memory → Deed a s
  relinquished_it :
      (h : Handle) (d : Deal) → event_of a s ≡ Relinquished s.machine.current h → Handled s.machine receives true h d
      → Leaves a s (relinquished s.machine h d) → (after a s).memory ≡ s.memory → Deed a s
  reclaimed_it :
      (h : Handle) (d : Deal) → event_of a s ≡ Reclaimed s.machine.current h → Handled s.machine sends false h d
      → Leaves a s (reclaimed s.machine h d) → (after a s).memory ≡ s.memory → Deed a s

-- The pages of a sending.

-- a page of the list stands at some number
listed_at : (n : ℕ) (f : ℕ → PageId) (p : PageId) → is_in p (listed n f) ≡ true → (i : ℕ) × (i < n) × (f i ≡ p)
unfolding listed is_in
listed_at zero f p e = absurd (false≢true e)
listed_at (suc n) f p e =
    elim (or_either _ _ e) [
      | inl here ↦ (0, omega arith, same_page_true _ _ here)
      | inr there ↦ let found = listed_at n (λ i. f (suc i)) p there in (suc found.0, omega (arith, found.1), found.2)
    ]

at_listed : (n : ℕ) (f : ℕ → PageId) (i : ℕ) → i < n → is_in (f i) (listed n f) ≡ true
unfolding listed is_in
at_listed zero f i b = absurd (omega arith)
at_listed (suc n) f zero b = or_left _ (eq_same_page refl)
at_listed (suc n) f (suc i) b = or_right _ (at_listed n (λ k. f (suc k)) i (omega arith))

sent_holds : (kind : Kind) (s : State) → sending_verdict kind s ≡ passes → (i : ℕ) → i < sent_count s
    → holds (sent_transaction kind s) (sent_page s i) ≡ true
unfolding holds count_of count_in sent_transaction sent_deal
sent_holds kind s e i b = at_some (sent_count s) _ i b (eq_same_page (sent_at kind s e i b))

holds_sent : (kind : Kind) (s : State) → sending_verdict kind s ≡ passes → (p : PageId) → holds (sent_transaction kind s) p ≡ true
    → is_in p (listed (sent_count s) (sent_page s)) ≡ true
unfolding count_of count_in sent_transaction sent_deal
holds_sent kind s e p held =
    let found = held_at (sent_transaction kind s) p held in
    rw (← found.2, sent_at kind s e found.0 found.1) (at_listed (sent_count s) (sent_page s) found.0 found.1)

pages_sent : (kind : Kind) (s : State) → sending_verdict kind s ≡ passes
    → PagesSent s.machine.transactions s.machine.records
    kind s.machine.current (vm (sent_to s)) (lowest_free s.machine.transactions) (listed (sent_count s) (sent_page s)) (sent_transaction kind s)
unfolding sent_transaction sent_deal
pages_sent kind s e =
    let known = passed kind s e in
    record {
      is_handle = known.is_handle;
      was_free = free_at_lowest s.machine.transactions known.is_handle;
      is_deal = rw (length_listed (sent_count s) (sent_page s));
      just_these = λ p.
          same_test _ _ (holds_sent kind s e p) (λ b.
          let found = listed_at _ _ p b in rw (← found.2) (sent_holds kind s e found.0 found.1));
      were_own = λ p b. let found = listed_at _ _ p b in rw (← found.2) (known.own found.0 found.1);
    }

-- The parts of what an act leaves.

leaves : {a : Act} {s : State} (t : State) (m : Machine) → after a s ≡ t
    → t.machine.transactions ≡ m.transactions → t.machine.records ≡ m.records → Leaves a s m
leaves t m here transactions records =
    record {
      transactions = ap (λ (u : State). u.machine.transactions) here ∙ transactions;
      records = ap (λ (u : State). u.machine.records) here ∙ records;
    }

memory_of_lem : {s t : State} → s ≡ t → s.memory ≡ t.memory
memory_of_lem here = ap (λ (u : State). u.memory) here

-- Calls: of s itself, or of s with the caller's pc moved on.

module _ (a : Act) (s : State) (files : List Registers)
    (aims : aim a s ≡ calling)
    (args : (i : ℕ) → argument (with_registers s.machine files) i ≡ argument s.machine i)
    (good : Good (with_registers s.machine files))
    (whole : length s.memory ≡ PAGE * s.machine.m) where
  -- the state of the call
  abbrev from : State
  from = state (with_registers s.machine files) s.memory

  sized : Sized files s.machine.current
  sized =
      let few = good.1.counts_in_range.eight_guests in
      shaped_sized (with_registers s.machine files) s.machine.current good.0 (omega (arith, good.1.current_below))

  is_told : event_of a s ≡ call_event from (after a s)
  is_told = told_called a s aims ∙ same_call s (after a s) files args

  -- R0 of the caller in what the call leaves
  r0 : (t : State) → after a s ≡ t → callers_in from (after a s) 0 ≡ callers_in from t 0
  r0 t here = ap (λ (u : State). callers_in from u 0) here

  callers_same : (t : State) (i : ℕ) → callers_in s t i ≡ callers_in from t i
  unfolding callers_in
  callers_same t i = refl

  refused_deed : (code : ℕ) → after a s ≡ state (with_error from.machine code) s.memory → Deed a s
  unfolding with_error callers_in
  refused_deed code here =
      did_nothing
      (is_told
      ∙ not_successful from (after a s) ERROR
      (r0 _ here ∙ written_beside 2 0 code (written_sized 0 ERROR sized) (λ e. absurd (omega arith)) ∙ written_at 0 ERROR sized (omega arith))
      refl)
      (leaves _ _ here refl refl)
      (memory_of_lem here)

  -- a call of which nothing is told, and which leaves memory and pages
  silent_deed : (m : Machine) → Silent from.machine → after a s ≡ state m s.memory
      → m.transactions ≡ s.machine.transactions → m.records ≡ s.machine.records → Deed a s
  silent_deed m quiet here transactions records =
      did_nothing
      (is_told ∙ silent from (after a s) quiet)
      (leaves _ _ here transactions records)
      (memory_of_lem here)

  -- a call on the handle in R1 that has passed
  handled_told : (event : VmId → Handle → Event) (number : ℕ) (m : Machine) → m.registers ≡ files → m.current ≡ s.machine.current
      → chosen tellings no_event number ≡ handle_event event → argument from.machine 0 ≡ number
      → after a s ≡ state (succeeded m) s.memory → event_of a s ≡ event s.machine.current (own_handle from.machine)
  unfolding handle_event succeeded callers_in
  handled_told event number m kept same tells is here =
      is_told
      ∙ successful from (after a s) number is (r0 _ here ∙ rw (kept, same) (written_at 0 SUCCESS sized (omega arith)))
      ∙ ap (λ (f : State → State → Event). f from (after a s)) tells

  handled : {number : ℕ} {may : Deal → VmId → Bool} {mark : Bool} {d : Deal} → OnHandle from.machine number may mark d
      → Handled s.machine may mark (own_handle from.machine) d
  handled c = record { is_handle = c.is_handle; is_live = c.is_live; is_party = c.is_party; is_marked = c.is_marked }

  sent_told : (kind : Kind) → argument from.machine 0 ≡ sending_number kind
      → after a s ≡ state (with_handle (succeeded (sent kind from)) (lowest_free s.machine.transactions)) s.memory
      → event_of a s
      ≡ Sent kind s.machine.current (vm (sent_to from)) (lowest_free s.machine.transactions) (listed (sent_count from) (sent_page from))
  unfolding sent_event with_handle succeeded sent settled callers_in
  sent_told kind is here =
      let r2 : callers_in from (after a s) 2 ≡ (lowest_free s.machine.transactions).0 =
      ap (λ (u : State). callers_in from u 2) here ∙ written_at 2 _ (written_sized 0 SUCCESS sized) (omega arith) in
      is_told
      ∙ told_sent kind from (after a s) is
      (r0 _ here ∙ written_beside 2 0 _ (written_sized 0 SUCCESS sized) (λ e. absurd (omega arith)) ∙ written_at 0 SUCCESS sized (omega arith))
      ∙ ap (λ (h : ℕ). Sent kind s.machine.current (vm (sent_to from)) (handle h) (listed (sent_count from) (sent_page from))) r2

  sent_deed : (kind : Kind) → argument from.machine 0 ≡ sending_number kind → sending_verdict kind from ≡ passes
      → after a s ≡ state (with_handle (succeeded (sent kind from)) (lowest_free s.machine.transactions)) s.memory → Deed a s
  unfolding with_handle succeeded sent settled
  sent_deed kind is ok here =
      sent_pages kind _ _ _ (sent_transaction kind from) (sent_told kind is here) (pages_sent kind from ok)
      (ap (λ (u : State). u.machine.transactions) here)
      (memory_of_lem here)

  -- the caller of Send is told of its success, be it guest 0 or not
  message_r0 : callers_in from (state (notified (succeeded (delivered from.machine)) (send_to from.machine)) (copied from)) 0 ≡ SUCCESS
  unfolding callers_in notified woken told succeeded delivered is_primary same_vm
  message_r0 = go (is_primary s.machine.current) refl
    where
      answered : List Registers
      answered = written files s.machine.current 0 SUCCESS

      informed : List Registers
      informed = written (written (written answered primary 0 SEND) primary 1 s.machine.current.0) primary 2 (send_to from.machine).0

      go : (b : Bool) → is_primary s.machine.current ≡ b
          → register (registers_at (cond b answered informed) s.machine.current) 0 ≡ SUCCESS
      go true p = written_at 0 SUCCESS sized (omega arith)
      go false p =
          let secondary : s.machine.current.0 ≡ 0 → ⊥ = eqb-false _ _ p in
          rw (
            written_other (written (written answered primary 0 SEND) primary 1 s.machine.current.0) primary s.machine.current 2 _ secondary,
            written_other (written answered primary 0 SEND) primary s.machine.current 1 _ secondary,
            written_other answered primary s.machine.current 0 SEND secondary,
          )
          (written_at 0 SUCCESS sized (omega arith))

  -- the receiver is named in R1
  same_receiver : send_to from.machine ≡ send_to s.machine
  unfolding send_to
  same_receiver = ap vm (args 1)

  sends_message : argument from.machine 0 ≡ SEND → send_verdict from.machine ≡ passes
      → after a s ≡ state (notified (succeeded (delivered from.machine)) (send_to from.machine)) (copied from)
      → SendsMessage a s
  sends_message is ok here =
      record {
        calls = aims;
        by_number = sym (args 0) ∙ is;
        succeeds = callers_same _ 0 ∙ r0 _ here ∙ message_r0;
        rest_stays = λ x other.
            ap (λ (memory : List ℕ). loaded memory x) (memory_of_lem here)
            ∙ other_pages_stay from whole good.1 ok x (rw same_receiver other);
      }

  message_deed : argument from.machine 0 ≡ SEND → send_verdict from.machine ≡ passes
      → after a s ≡ state (notified (succeeded (delivered from.machine)) (send_to from.machine)) (copied from) → Deed a s
  unfolding notified woken succeeded delivered chosen
  message_deed is ok here =
      sent_message
      (is_told ∙ silent from (after a s) (rw is refl))
      (rw (← same_receiver) (message_passed from.machine ok).to_other.0)
      (sends_message is ok here)
      (leaves _ _ here refl refl)

  call_deed : (t : State) → after a s ≡ t → CallCase from t → Deed a s
  unfolding chosen succeeded handed_over woken polled settled retrieved relinquished reclaimed
  call_deed t here (was_refused code e) = refused_deed code (here ∙ e)
  call_deed t here (did_run quiet b e) = silent_deed _ quiet (here ∙ e) refl refl
  call_deed t here (did_hand_over why quiet e) = silent_deed _ quiet (here ∙ e) refl refl
  call_deed t here (did_poll quiet e) = silent_deed _ quiet (here ∙ e) refl refl
  call_deed t here (did_send is ok e) = message_deed is ok (here ∙ e)
  call_deed t here (did_send_pages kind is ok e) = sent_deed kind is ok (here ∙ e)
  call_deed t here (did_retrieve d c e) =
      retrieved_it _ d (handled_told Retrieved RETRIEVE _ refl refl refl c.by_number (here ∙ e)) (handled c)
      (leaves _ _ (here ∙ e) refl refl) (memory_of_lem (here ∙ e))
  call_deed t here (did_relinquish d c e) =
      relinquished_it _ d (handled_told Relinquished RELINQUISH _ refl refl refl c.by_number (here ∙ e)) (handled c)
      (leaves _ _ (here ∙ e) refl refl) (memory_of_lem (here ∙ e))
  call_deed t here (did_reclaim d c e) =
      reclaimed_it _ d (handled_told Reclaimed RECLAIM _ refl refl refl c.by_number (here ∙ e)) (handled c)
      (leaves _ _ (here ∙ e) refl refl) (memory_of_lem (here ∙ e))

-- Steps and acts.

-- an act that changes neither registers nor pages nor memory, and completes no store
idle_deed : (a : Act) (s : State) (mode : Mode) → after a s ≡ state (with_mode s.machine mode) s.memory
    → is_done (entry_of a s).result.answer and is_normal mode ≡ false → Deed a s
idle_deed a s mode here incomplete =
    did_nothing
    (idle a s (ap (λ (u : State). u.machine.registers) here) (rw here incomplete))
    (leaves _ _ here refl refl)
    (memory_of_lem here)

-- the arguments of a call do not depend on the caller's pc
advanced_arguments : (m : Machine) → m.current.0 < length m.registers → (i : ℕ)
    → argument (with_own m (advanced (own_registers m))) i ≡ argument m i
unfolding argument own_registers with_own advanced register
advanced_arguments m b i = rw (file_same m.registers m.current (advanced (own_registers m)) b)

module _ (s : State) (good : Good s.machine) (whole : length s.memory ≡ PAGE * s.machine.m)
    (done : is_done (entry_of step s).result.answer ≡ true) (normal : is_normal s.machine.mode ≡ true) where
  step_deed : (t : State) → after step s ≡ t → StepCase s t → Deed step s
  unfolding with_own fault halt hvc is_normal advanced
  step_deed t here (did_move file aims long e) =
      did_nothing (told_other step s aims) (leaves _ _ (here ∙ e) refl refl) (memory_of_lem (here ∙ e))
  step_deed t here (did_store x v aims may e) =
      stored_it x v
      (told_stored step s x v aims done (rw (here ∙ e) normal))
      may
      (leaves _ _ (here ∙ e) refl refl)
      (memory_of_lem (here ∙ e))
  step_deed t here (did_call aims e) =
      let fits : s.machine.current.0 < length s.machine.registers =
      omega (arith, good.0.eight_files, good.1.current_below, good.1.counts_in_range.eight_guests) in
      call_deed step s _ aims (advanced_arguments s.machine fits) (own_keeps s.machine good _ (own_eight s.machine good)) whole
      _ (here ∙ e) (call_case _)
  step_deed t here (did_fault e) = idle_deed step s Fault (here ∙ e) (and_false _ _ (λ p. refl))
  step_deed t here (did_halt e) = idle_deed step s Halted (here ∙ e) (and_false _ _ (λ p. refl))

pub act_deed : (a : Act) (s : State) → Shaped s.machine → Deed a s
unfolding effect_of aim
act_deed a s shaped = go (is_done (entry_of a s).result.answer) refl
  where
    done_deed : (a : Act) → is_done (entry_of a s).result.answer ≡ true
        → (check_of s.machine s.memory ≡ Done) × (is_normal s.machine.mode ≡ true) → Deed a s
    done_deed step done (ok, normal) =
        step_deed s (shaped, done_sound s.machine s.memory ok) (done_memory s.machine s.memory ok) done normal
        _ (after_done step s done) (step_case s)
    done_deed call done (ok, normal) =
        call_deed call s s.machine.registers refl (λ i. refl) (shaped, done_sound s.machine s.memory ok)
        (done_memory s.machine s.memory ok) _ (after_done call s done) (call_case s)

    go : (b : Bool) → is_done (entry_of a s).result.answer ≡ b → Deed a s
    go true done = done_deed a done (done_accepted a s done)
    go false refused = idle_deed a s s.machine.mode (after_refused a s refused) (and_false _ _ (λ p. absurd (not_both p refused)))
