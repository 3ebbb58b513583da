-- `offers::descriptor::bases_ascend`: neighbours in the part of the words that holds the bases are neighbours among the bases.
use Rattle.std.proofs.Common.{arith, rules, sym, suc, add-one, get_or-take, get_or-drop, length-take-le, length-drop, ltb, ◌+◌, ◌<◌, ◌≡◌, ◌∙◌, ℕ, Bool, true, false, List, take, drop, get_or, length}
use Rattle.std.proofs.lemmas.List.Sorted.{answers_always}
use Rattle.std.specs.List.{IsAllAdjacentAnswer}
use Rattle.model.specs.Tests.{ascending}
use Rattle.model.proofs.Tests.{at_every}
use Rattle.parts.proofs.Loops.{every_stops}
use Rattle.offers.specs.Descriptor.{base_in}
use Rattle.offers.proofs.descriptor.bases_ascend.Goals as goal

base_read : (tx : List ℕ) (n i : ℕ) → i < n → get_or (take n (drop 2 tx)) i 0 ≡ base_in tx i
unfolding base_in
base_read tx n i b = get_or-take n (drop 2 tx) i 0 b ∙ get_or-drop 2 tx i 0

step_read : (tx : List ℕ) (n i : ℕ) → i + 1 < n
    → ltb (get_or (take n (drop 2 tx)) i 0) (get_or (take n (drop 2 tx)) (i + 1) 0) ≡ ltb (base_in tx i) (base_in tx (suc i))
step_read tx n i b = rw (base_read tx n i (omega arith), base_read tx n (i + 1) b, add-one i)

ascend_by : (tx : List ℕ) (m n : ℕ) (r : Bool) → m ≡ n → length (take m (drop 2 tx)) ≡ m
    → IsAllAdjacentAnswer (λ x y b. b ≡ ltb x y) (take m (drop 2 tx)) r → r ≡ ascending n (base_in tx)
unfolding ascending
ascend_by tx m n true e whole a =
    sym (at_every _ _ (λ i h. sym (step_read tx m i (omega arith)) ∙ sym (a i 0 (omega arith))))
ascend_by tx m n false e whole (i, b, a) =
    sym (every_stops _ (omega arith) (sym (step_read tx m i (omega arith)) ∙ sym (a 0)))

pub returns : goal.returns
returns c =
    ascend_by c.args.tx.now _ _ _ (omega arith) (length-take-le _ _ (omega (arith, length-drop 2 c.args.tx.now)))
    (c.is_sorted_by.ensures.cases ltb (answers_always _ _ _ (λ f a r g h. search rules)))
