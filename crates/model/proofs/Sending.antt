-- What is known of a sending whose tests pass: of its descriptor, of the handle that it gets, and of its transaction.
use Rattle.std.specs.Prelude.{Option, None, Some}
use Rattle.model.specs.declared.Deal.{Deal}
use Prim.Native.Nat.{ℕ, ◌%◌, ◌≤◌, ◌<◌}
use mathlib.Core.Path.{◌≡◌, refl, ◌∙◌}
use mathlib.Core.Bool.{true, false, false≢true}
use mathlib.Core.List.{List}
use native.Mathlib.Omega.{arith}
use lib.ListN.{replicate, get_or-replicate}
use borrow.Author.Tests.{ltb-true, leb-true, eqb-true, not-true}
use Rattle.model.specs.declared.Kind.{Kind}
use Rattle.model.specs.declared.Transaction.{Transaction}
use Rattle.model.specs.Constants.{PAGE, HANDLES, PLACES}
use Rattle.model.specs.Tests.{ascending}
use Rattle.model.specs.State.{State, vm, page, handle, record_at, transaction_at, page_at}
use Rattle.model.specs.Row.{owned_row}
use Rattle.model.specs.Reply.{passes, is_other}
use Rattle.model.specs.Sending.{sent_to, sent_base, sent_page, sent_length, sent_count, is_free, lowest_free, granted, is_base, may_be_sent, sending_verdict, sent_transaction}
use Rattle.isa.proofs.Tests.{not_both, and_left, and_right}
use Rattle.model.proofs.Tests.{every_at, first_passes, before_first, set_each_in_order, set_each_other}
use Rattle.model.proofs.Same.{eq_same_vm, same_record_true}
use Rattle.model.proofs.Reply.{need_test, need_rest}

-- The tests.

pub record Passed (s : State) : Type 0 where
  pub count_in_range : (1 ≤ sent_count s) × (sent_count s ≤ PLACES)
  pub to_other : (sent_to s < s.machine.n) × (vm (sent_to s) ≡ s.machine.current → ⊥)
  pub bases : (i : ℕ) → i < sent_count s → sent_base s i % PAGE ≡ 0
  pub below : (i : ℕ) → i < sent_count s → (sent_page s i).0 < s.machine.m
  pub ascend : ascending (sent_count s) (sent_base s) ≡ true
  pub own : (i : ℕ) → i < sent_count s → record_at s.machine.records (sent_page s i) ≡ owned_row s.machine.current
  pub is_handle : (lowest_free s.machine.transactions).0 < HANDLES

pub passed : (kind : Kind) (s : State) → sending_verdict kind s ≡ passes → Passed s
unfolding sending_verdict sent_count is_other is_base may_be_sent sent_page granted
passed kind s e =
    let to = need_rest _ _ _ (need_rest _ _ _ (need_rest _ _ _ e)) in
    let bases = need_rest _ _ _ to in
    let ascend = need_rest _ _ _ bases in
    let own = need_rest _ _ _ ascend in
    let low : 3 ≤ sent_length s = leb-true _ _ (and_left _ _ (need_test _ _ _ e)) in
    let high : sent_length s ≤ 10 = leb-true _ _ (and_right _ _ (need_test _ _ _ e)) in
    record {
      count_in_range = (omega arith, omega arith);
      to_other = (
        ltb-true _ _ (and_left _ _ (need_test _ _ _ to)),
        λ q. not_both (eq_same_vm q) (not-true _ (and_right _ _ (need_test _ _ _ to))),
      );
      bases = λ i b. eqb-true _ _ (and_left _ _ (every_at _ _ (need_test _ _ _ bases) i b));
      below = λ i b. ltb-true _ _ (and_right _ _ (every_at _ _ (need_test _ _ _ bases) i b));
      ascend = need_test _ _ _ ascend;
      own = λ i b. same_record_true _ _ (every_at _ _ (need_test _ _ _ own) i b);
      is_handle = ltb-true _ _ (need_test _ _ _ (need_rest _ _ _ own));
    }

-- The lowest free handle.

pub is_free_lem : (l : Option Deal) → is_free l ≡ true → l ≡ None
unfolding is_free
is_free_lem None e = refl
is_free_lem (Some d) e = absurd (false≢true e)

pub free_at_lowest : (transactions : List Transaction) → (lowest_free transactions).0 < HANDLES
    → is_free (transaction_at transactions (lowest_free transactions)).deal ≡ true
unfolding lowest_free
free_at_lowest transactions h = first_passes _ (λ k. is_free (transaction_at transactions (handle k)).deal) h

pub live_below_lowest : (transactions : List Transaction) (k : ℕ) → k < (lowest_free transactions).0
    → is_free (transaction_at transactions (handle k)).deal ≡ false
unfolding lowest_free
live_below_lowest transactions k h = before_first _ (λ j. is_free (transaction_at transactions (handle j)).deal) k h

-- The page slots: those sent, then blank ones.

pub sent_at : (kind : Kind) (s : State) → sending_verdict kind s ≡ passes → (i : ℕ) → i < sent_count s
    → page_at (sent_transaction kind s) i ≡ sent_page s i
unfolding page_at sent_transaction
sent_at kind s e i b =
    set_each_in_order (sent_count s) (sent_page s) (replicate PLACES (page 0)) i (page 0) b
    (omega (arith, (passed kind s e).count_in_range.1))

pub sent_blank : (kind : Kind) (s : State) (i : ℕ) → i < PLACES → sent_count s ≤ i → page_at (sent_transaction kind s) i ≡ page 0
unfolding page_at sent_transaction
sent_blank kind s i b c =
    set_each_other (sent_count s) (λ j. j) (sent_page s) (replicate PLACES (page 0)) i (page 0) (λ j l q. omega arith)
    ∙ get_or-replicate PLACES i (page 0) (page 0) b
