-- The laws of the tests and changes over numbers: what each tells where it passes or fails, and how to make it pass.
use Prim.Native.Nat.{ℕ, zero, suc, ◌≤◌, ◌<◌}
use mathlib.Core.Path.{◌≡◌, refl, sym, ap, ◌∙◌}
use mathlib.Core.Bool.{Bool, true, false, cond, false≢true, beq, ◌&&◌}
use mathlib.Core.List.{List}
use mathlib.Core.Logic.{◌⊎◌, inl, inr}
use native.Mathlib.Nat.{eq-or-lt_of_le, le_of_suc-le-suc}
use native.Mathlib.Decide.{ℕ_discrete, dec_lt}
use native.Mathlib.Omega.{arith}
use lib.ListN.{length, get_or, length-set}
use lib.Seq.{get_or-set_same, get_or-set_other}
use lib.Dec.{ltb}
use borrow.Author.Tests.{ltb-true, ltb-false, lt-ltb}
use Rattle.isa.proofs.Tests.{and_intro, and_left, and_right, not_both, or_else, or_left, or_right}
use Rattle.isa.specs.Tests.{◌and◌}
use Rattle.model.specs.Tests.{agree, every, some, or_next, first, ascending, set_each, listed}

-- Agreement.

pub agree_true : (a b : Bool) → agree a b ≡ true → a ≡ b
unfolding agree
agree_true true b e = sym e
agree_true false true e = e
agree_true false false e = refl

pub eq_agree : {a b : Bool} → a ≡ b → agree a b ≡ true
unfolding agree
eq_agree {a = true} {b} p = sym p
eq_agree {a = false} {b = true} p = p
eq_agree {a = false} {b = false} p = refl

-- the code compares two bools as `agree` does
pub beq_agree : (a b : Bool) → beq a b ≡ agree a b
unfolding agree
beq_agree true true = refl
beq_agree true false = refl
beq_agree false true = refl
beq_agree false false = refl

-- the code's `&&`, which its derived comparisons use, is our `and`
pub both_and : (a b : Bool) → (a && b) ≡ (a and b)
unfolding ◌and◌
both_and true b = refl
both_and false b = refl

-- tests of which each passes where the other does agree
pub same_test : (a b : Bool) → (a ≡ true → b ≡ true) → (b ≡ true → a ≡ true) → a ≡ b
same_test true b there back = sym (there refl)
same_test false true there back = back refl
same_test false false there back = refl

-- Every number below n.

-- a number below the next of n is below n or is n
below_suc : {k n : ℕ} → k < suc n → (k ≡ n) ⊎ (k < n)
below_suc h = eq-or-lt_of_le (le_of_suc-le-suc h)

pub every_at : (n : ℕ) (f : ℕ → Bool) → every n f ≡ true → (k : ℕ) → k < n → f k ≡ true
unfolding every
every_at zero f e k h = absurd (omega arith)
every_at (suc n) f e k h =
    elim (below_suc h) [ inl q ↦ rw q (and_right _ _ e) | inr l ↦ every_at n f (and_left _ _ e) k l ]

pub at_every : (n : ℕ) (f : ℕ → Bool) → ((k : ℕ) → k < n → f k ≡ true) → every n f ≡ true
unfolding every
at_every zero f h = refl
at_every (suc n) f h = and_intro (at_every n f (λ k l. h k (omega arith))) (h n (omega arith))

-- Some number below n.

pub at_some : (n : ℕ) (f : ℕ → Bool) (k : ℕ) → k < n → f k ≡ true → some n f ≡ true
unfolding some
at_some zero f k h p = absurd (omega arith)
at_some (suc n) f k h p =
    elim (below_suc h) [ inl q ↦ or_right _ (rw q at p) | inr l ↦ or_left _ (at_some n f k l p) ]

pub some_at : (n : ℕ) (f : ℕ → Bool) → some n f ≡ true → (k : ℕ) × (k < n) × (f k ≡ true)
unfolding some
some_at zero f e = absurd (false≢true e)
some_at (suc n) f e = go (some_at n f) (some n f) refl
  where
    go : (some n f ≡ true → (k : ℕ) × (k < n) × (f k ≡ true)) → (a : Bool) → some n f ≡ a
        → (k : ℕ) × (k < suc n) × (f k ≡ true)
    go lower true q = let found = lower q in (found.0, omega (arith, found.1), found.2)
    go lower false q = (n, omega arith, or_else _ _ e q)

-- The first number below n.

-- r is what `first n f` has to be
record IsFirst (n : ℕ) (f : ℕ → Bool) (r : ℕ) : Type 0 where
  within : r ≤ n
  passes : r < n → f r ≡ true
  before : (k : ℕ) → k < r → f k ≡ false

first_next : (n : ℕ) (f : ℕ → Bool) (r : ℕ) → IsFirst n f r → IsFirst (suc n) f (or_next r n (f n))
unfolding or_next
first_next n f r c = go (ltb r n) (f n) refl refl
  where
    go : (found here : Bool) → ltb r n ≡ found → f n ≡ here → IsFirst (suc n) f (cond found r (cond here n (suc n)))
    go true here p q =
        record { within = omega (arith, c.within); passes = λ h. c.passes (ltb-true r n p); before = c.before }
    go false true p q =
        record { within = omega arith; passes = λ h. q; before = λ k h. c.before k (omega (arith, ltb-false r n p)) }
    go false false p q =
        record {
          within = omega arith;
          passes = λ h. absurd (omega arith);
          before = λ k h. elim (below_suc h) [ inl e ↦ rw e q | inr l ↦ c.before k (omega (arith, ltb-false r n p)) ];
        }

is_first : (n : ℕ) (f : ℕ → Bool) → IsFirst n f (first n f)
unfolding first
is_first zero f =
    record { within = omega arith; passes = λ h. absurd (omega arith); before = λ k h. absurd (omega arith) }
is_first (suc n) f = first_next n f (first n f) (is_first n f)

first_le : (n : ℕ) (f : ℕ → Bool) → first n f ≤ n
first_le n f = (is_first n f).within

pub first_passes : (n : ℕ) (f : ℕ → Bool) → first n f < n → f (first n f) ≡ true
first_passes n f = (is_first n f).passes

pub before_first : (n : ℕ) (f : ℕ → Bool) (k : ℕ) → k < first n f → f k ≡ false
before_first n f = (is_first n f).before

-- no number that passes is before the first
pub passes_first : (n : ℕ) (f : ℕ → Bool) (k : ℕ) → f k ≡ true → first n f ≤ k
passes_first n f k p = elim (dec_lt k (first n f)) [ yes l ↦ absurd (not_both p (before_first n f k l)) | no l ↦ omega arith ]

pub first_is : (n : ℕ) (f : ℕ → Bool) (k : ℕ) → k < n → f k ≡ true → ((j : ℕ) → j < k → f j ≡ false) → first n f ≡ k
first_is n f k h p b =
    let upper : first n f ≤ k = passes_first n f k p in
    elim (dec_lt (first n f) k) [
      | yes l ↦ absurd (not_both (first_passes n f (omega arith)) (b (first n f) l))
      | no l ↦ omega arith
    ]

-- where no number passes, the first is the bound
pub none_first : (n : ℕ) (f : ℕ → Bool) → ((k : ℕ) → k < n → f k ≡ false) → first n f ≡ n
none_first n f h =
    let upper : first n f ≤ n = first_le n f in
    elim (dec_lt (first n f) n) [ yes l ↦ absurd (not_both (first_passes n f l) (h _ l)) | no l ↦ omega arith ]

-- Ascending numbers.

pub ascending_at : (n : ℕ) (f : ℕ → ℕ) → ascending n f ≡ true → (i : ℕ) → suc i < n → f i < f (suc i)
unfolding ascending
ascending_at n f e i h = ltb-true _ _ (every_at _ _ e i (omega arith))

pub at_ascending : (n : ℕ) (f : ℕ → ℕ) → ((i : ℕ) → suc i < n → f i < f (suc i)) → ascending n f ≡ true
unfolding ascending
at_ascending n f h = at_every _ _ (λ i l. lt-ltb _ _ (h i (omega arith)))

pub ascending_lt : (n : ℕ) (f : ℕ → ℕ) → ascending n f ≡ true → (i j : ℕ) → i < j → j < n → f i < f j
ascending_lt n f e i zero l h = absurd (omega arith)
ascending_lt n f e i (suc j) l h =
    let step : f j < f (suc j) = ascending_at n f e j h in
    elim (below_suc l) [
      | inl q ↦ rw q step
      | inr lower ↦ omega (arith, ascending_lt n f e i j lower (omega arith))
    ]

-- Values set at n places.

pub length_set_each : {A : Type 0} (n : ℕ) (place : ℕ → ℕ) (value : ℕ → A) (l : List A) → length (set_each n place value l) ≡ length l
unfolding set_each
length_set_each zero place value l = refl
length_set_each (suc n) place value l = length-set (set_each n place value l) _ _ ∙ length_set_each n place value l

-- at none of the places
pub set_each_other : {A : Type 0} (n : ℕ) (place : ℕ → ℕ) (value : ℕ → A) (l : List A) (k : ℕ) (d : A)
    → ((i : ℕ) → i < n → place i ≡ k → ⊥) → get_or (set_each n place value l) k d ≡ get_or l k d
unfolding set_each
set_each_other zero place value l k d h = refl
set_each_other (suc n) place value l k d h =
    get_or-set_other (set_each n place value l) (place n) k (value n) d (λ q. h n (omega arith) (sym q))
    ∙ set_each_other n place value l k d (λ i b. h i (omega arith))

-- at the place k, where every value that is set there is v
pub set_each_at : {A : Type 0} (n : ℕ) (place : ℕ → ℕ) (value : ℕ → A) (l : List A) (k : ℕ) (d v : A)
    → ((i : ℕ) → i < n → place i ≡ k → value i ≡ v)
    → (i : ℕ) → i < n → place i ≡ k → k < length l
    → get_or (set_each n place value l) k d ≡ v
unfolding set_each
set_each_at zero place value l k d v h i b p fits = absurd (omega arith)
set_each_at (suc n) place value l k d v h i b p fits =
    elim (ℕ_discrete (place n) k) [
      | yes q ↦
          rw (← q) (get_or-set_same (set_each n place value l) (place n) (value n) d (omega (arith, length_set_each n place value l)))
          ∙ h n (omega arith) q
      | no q ↦
          get_or-set_other (set_each n place value l) (place n) k (value n) d (λ e. q (sym e))
          ∙ elim (below_suc b) [
            | inl e ↦ absurd (q (rw (← e) p))
            | inr lower ↦ set_each_at n place value l k d v (λ j c. h j (omega arith)) i lower p fits
          ]
    ]

-- at one of the places, where all the values are v
pub set_each_same : {A : Type 0} (n : ℕ) (place : ℕ → ℕ) (v : A) (l : List A) (k : ℕ) (d : A)
    → (i : ℕ) → i < n → place i ≡ k → k < length l
    → get_or (set_each n place (λ j. v) l) k d ≡ v
set_each_same n place v l k d = set_each_at n place (λ j. v) l k d v (λ j b p. refl)

-- in the first n places, in order
pub set_each_in_order : {A : Type 0} (n : ℕ) (value : ℕ → A) (l : List A) (i : ℕ) (d : A)
    → i < n → i < length l → get_or (set_each n (λ j. j) value l) i d ≡ value i
set_each_in_order n value l i d b fits = set_each_at n (λ j. j) value l i d (value i) (λ j c p. ap value p) i b refl fits

-- Values in order.

pub length_listed : {A : Type 0} (n : ℕ) (f : ℕ → A) → length (listed n f) ≡ n
unfolding listed
length_listed zero f = refl
length_listed (suc n) f = ap suc (length_listed n (λ i. f (suc i)))

-- tests that agree at every number
pub every_same : (n : ℕ) (f g : ℕ → Bool) → ((k : ℕ) → k < n → f k ≡ g k) → every n f ≡ every n g
unfolding every
every_same zero f g same = refl
every_same (suc n) f g same = rw (every_same n f g (λ k b. same k (omega arith)), same n (omega arith))
