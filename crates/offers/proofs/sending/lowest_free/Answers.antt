-- `offers::sending::lowest_free`: where `position` stops, or the number of handles, is the first handle that is free.
use Rattle.std.proofs.Common.{arith, rules, tests, ap, sym, ◌≡◌, ◌∙◌, ℕ, ◌<◌, Bool, false, not, List, length, get_or}
use native.Mathlib.Decide.{dec_lt}
use borrow.Author.Tests.{lt-ltb, le-ltb, not-false, not-true}
use Rattle.std.specs.Option.{unwrap_or}
use Rattle.std.specs.List.{position, position_or_len}
use Rattle.std.proofs.lemmas.Iterator.{YieldsList-from_slice}
use Rattle.std.proofs.lemmas.Iterator.Search.{position_from_yields_List}
use Rattle.std.proofs.lemmas.List.Sums.{prefix_len_passes, prefix_len_stops}
use Rattle.model.specs.declared.Transaction.{Transaction}
use Rattle.model.specs.Constants.{HANDLES}
use Rattle.model.specs.State.{handle, transaction_at}
use Rattle.model.specs.Tests.{first}
use Rattle.model.specs.Sending.{is_free, lowest_free}
use Rattle.model.proofs.Tests.{first_is, none_first}
use Rattle.offers.proofs.sending.lowest_free.Goals as goal

-- the place that `position` finds, or the length, is the first number below it that passes
first_position : {A : Type 0} (d : A) (p : A → Bool) (xs : List A) {n : ℕ} → length xs ≡ n
    → unwrap_or (position p xs) n ≡ first n (λ k. p (get_or xs k d))
first_position {A} d p xs {n} e =
    let before : (k : ℕ) → k < position_or_len p xs → p (get_or xs k d) ≡ false =
    λ k h. not-true _ (prefix_len_passes (λ x. not (p x)) xs k d h)
    in
    elim (dec_lt (position_or_len p xs) (length xs)) [
      | yes l ↦
          rw (lt-ltb (position_or_len p xs) (length xs) l)
          (sym (first_is n _ (position_or_len p xs) (omega arith) (not-false _ (prefix_len_stops (λ x. not (p x)) xs d l)) before))
      | no l ↦
          rw (le-ltb (position_or_len p xs) (length xs) (omega arith)) (sym (none_first n _ (λ k h. before k (omega arith))))
    ]

abbrev free : Transaction → Bool
free t = is_free t.deal

pub returns : goal.returns
unfolding lowest_free transaction_at is_free
returns c =
    let stops : c.position-free.result ≡ position free c.args.transactions.now =
    position_from_yields_List free _ _ _ c.position-free.ensures.ran
    (YieldsList-from_slice c.args.transactions.now c.iter.ensures.rest)
    (λ x b q k. search (rules, tests))
    in
    let lowest : c.unwrap_or.result ≡ first HANDLES (λ k. free (transaction_at c.args.transactions.now (handle k))) =
    c.unwrap_or.ensures
    ∙ ap (λ o. unwrap_or o 16) stops
    ∙ first_position _ free c.args.transactions.now c.told-transactions
    in
    ap handle (omega arith)
