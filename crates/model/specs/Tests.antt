-- Tests and changes over numbers: what the definitions of the machine count with.
use Rattle.std.specs.Prelude.{ℕ, zero, suc, ◌+◌, ◌-◌, Bool, true, false, cond, List, [], ◌∷◌, set, ltb}
use Rattle.isa.specs.Tests.{◌and◌, ◌or◌}

-- the two tests say the same
unfoldable pub agree : Bool → Bool → Bool
agree true b = b
agree false true = false
agree false false = true

-- the test passes at every number below n
unfoldable pub every : ℕ → (ℕ → Bool) → Bool
every zero f = true
every (suc n) f = every n f and f n

-- the test passes at some number below n
unfoldable pub some : ℕ → (ℕ → Bool) → Bool
some zero f = false
some (suc n) f = some n f or f n

-- at how many numbers below n the test passes
unfoldable pub counted : ℕ → (ℕ → Bool) → ℕ
counted zero f = 0
counted (suc n) f = counted n f + cond (f n) 1 0

-- what was found below n; else n, if the test passes there; else the number behind it
unfoldable pub or_next : ℕ → ℕ → Bool → ℕ
or_next found n passes = cond (ltb found n) found (cond passes n (suc n))

-- the lowest number below n at which the test passes, or n if there is none
unfoldable pub first : ℕ → (ℕ → Bool) → ℕ
first zero f = 0
first (suc n) f = or_next (first n f) n (f n)

-- each of the n numbers is below the next
unfoldable pub ascending : ℕ → (ℕ → ℕ) → Bool
ascending n f = every (n - 1) (λ i. ltb (f i) (f (suc i)))

-- the list with, for each i below n, the value at i in the place at i; a later one wins
unfoldable pub set_each : {A : Type 0} → ℕ → (ℕ → ℕ) → (ℕ → A) → List A → List A
set_each zero place value l = l
set_each (suc n) place value l = set (set_each n place value l) (place n) (value n)

-- the values at the numbers below n, in order
unfoldable pub listed : {A : Type 0} → ℕ → (ℕ → A) → List A
listed zero f = []
listed (suc n) f = f 0 ∷ listed n (λ i. f (suc i))
