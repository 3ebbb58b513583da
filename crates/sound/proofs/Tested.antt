-- Tests in general: a test passes or fails, tests joined, and tests of every number.
use Prim.Native.Nat.{ℕ, zero, suc}
use mathlib.Core.Path.{◌≡◌, refl}
use mathlib.Core.Bool.{Bool, true, false, not}
use Rattle.isa.specs.Tests.{◌and◌, ◌or◌}
use Rattle.isa.proofs.Tests.{and_left, and_right, and_intro}
use Rattle.model.specs.Tests.{every, some}
use Rattle.model.proofs.Tests.{same_test, every_at, at_every}

-- a test passes or fails
pub either : {A : Type 0} (x : Bool) → (x ≡ true → A) → (x ≡ false → A) → A
either true pass fail = pass refl
either false pass fail = fail refl

pub or_assoc : (a b c : Bool) → (a or b) or c ≡ a or (b or c)
unfolding ◌or◌
or_assoc true b c = refl
or_assoc false b c = refl

neither : (a b : Bool) → (not a and not b) ≡ not (a or b)
unfolding ◌and◌ ◌or◌
neither true b = refl
neither false b = refl

-- all fail: there is none that passes
pub every_not : (n : ℕ) (f : ℕ → Bool) → every n (λ k. not (f k)) ≡ not (some n f)
unfolding every some
every_not zero f = refl
every_not (suc n) f = rw (every_not n f) (neither (some n f) (f n))

-- two tests at every number
pub every_both : (n : ℕ) (f g : ℕ → Bool) → every n (λ k. f k and g k) ≡ (every n f and every n g)
every_both n f g =
    same_test
    _
    _
    (λ e.
    and_intro
    (at_every n f (λ k b. and_left _ _ (every_at n (λ j. f j and g j) e k b)))
    (at_every n g (λ k b. and_right _ _ (every_at n (λ j. f j and g j) e k b))))
    (λ e. at_every n _ (λ k b. and_intro (every_at n f (and_left _ _ e) k b) (every_at n g (and_right _ _ e) k b)))

-- a test at every number of each of two kinds, in either order
pub every_swap : (n m : ℕ) (f : ℕ → ℕ → Bool) → every n (λ k. every m (f k)) ≡ every m (λ i. every n (λ k. f k i))
every_swap n m f =
    same_test
    _
    _
    (λ e. at_every m _ (λ i b. at_every n _ (λ k l. every_at m (f k) (every_at n (λ j. every m (f j)) e k l) i b)))
    (λ e. at_every n _ (λ k l. at_every m _ (λ i b. every_at n (λ j. f j i) (every_at m (λ j. every n (λ r. f r j)) e i b) k l)))
