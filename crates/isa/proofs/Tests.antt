-- The laws of joined tests: what each tells where it passes or fails, and how to make it pass.
use Prim.Native.Nat.{ℕ}
use mathlib.Core.Path.{◌≡◌, refl, sym, ap, ◌∙◌}
use mathlib.Core.Bool.{Bool, true, false, not, cond, true≢false, false≢true}
use mathlib.Core.Logic.{◌⊎◌, inl, inr}
use native.Mathlib.Omega.{arith}
use Rattle.isa.specs.Tests.{◌and◌, ◌or◌}

-- what opens joined tests, to be named at a function
unfoldable pub joined : Unit {0}
unfolding ◌and◌ ◌or◌
joined = tt

-- A test does not both pass and fail, and fails if it cannot pass.

pub not_both : {a : Bool} → a ≡ true → a ≡ false → ⊥
not_both p q = true≢false (sym p ∙ q)

pub cannot_pass : {a : Bool} → (a ≡ true → ⊥) → a ≡ false
cannot_pass {a = true} h = absurd (h refl)
cannot_pass {a = false} h = refl

-- The negation. The way back is `not-true` and `not-false` of `borrow.Author.Tests`.

pub false_not : {a : Bool} → a ≡ false → not a ≡ true
false_not p = ap not p

pub true_not : {a : Bool} → a ≡ true → not a ≡ false
true_not p = ap not p

-- Both.

pub and_left : (a b : Bool) → a and b ≡ true → a ≡ true
unfolding ◌and◌
and_left true b e = refl
and_left false b e = e

pub and_right : (a b : Bool) → a and b ≡ true → b ≡ true
unfolding ◌and◌
and_right true b e = e
and_right false b e = absurd (false≢true e)

pub and_parts : (a b : Bool) → a and b ≡ true → (a ≡ true) × (b ≡ true)
and_parts a b e = (and_left a b e, and_right a b e)

pub and_intro : {a b : Bool} → a ≡ true → b ≡ true → a and b ≡ true
unfolding ◌and◌
and_intro {a = true} p q = q
and_intro {a = false} p q = p

pub and_false_right : (a b : Bool) → a and b ≡ false → a ≡ true → b ≡ false
unfolding ◌and◌
and_false_right true b e p = e
and_false_right false b e p = absurd (false≢true p)

pub and_false : (a b : Bool) → (a ≡ true → b ≡ false) → a and b ≡ false
unfolding ◌and◌
and_false true b h = h refl
and_false false b h = refl

-- Either.

pub or_else : (a b : Bool) → a or b ≡ true → a ≡ false → b ≡ true
unfolding ◌or◌
or_else true b e p = absurd (true≢false p)
or_else false b e p = e

pub or_either : (a b : Bool) → a or b ≡ true → (a ≡ true) ⊎ (b ≡ true)
unfolding ◌or◌
or_either true b e = inl refl
or_either false b e = inr e

pub or_left : {a : Bool} (b : Bool) → a ≡ true → a or b ≡ true
unfolding ◌or◌
or_left {a = true} b p = refl
or_left {a = false} b p = absurd (false≢true p)

pub or_right : (a : Bool) {b : Bool} → b ≡ true → a or b ≡ true
unfolding ◌or◌
or_right true q = refl
or_right false q = q

pub or_false_left : (a b : Bool) → a or b ≡ false → a ≡ false
unfolding ◌or◌
or_false_left true b e = e
or_false_left false b e = refl

pub or_false_right : (a b : Bool) → a or b ≡ false → b ≡ false
unfolding ◌or◌
or_false_right true b e = absurd (true≢false e)
or_false_right false b e = e

pub or_false : {a b : Bool} → a ≡ false → b ≡ false → a or b ≡ false
unfolding ◌or◌
or_false {a = true} p q = p
or_false {a = false} p q = q

pub or_nothing : (a : Bool) → a or false ≡ a
unfolding ◌or◌
or_nothing true = refl
or_nothing false = refl

-- A choice.

-- a choice that is not its second side, since that would make 0 equal to 1, is its first
pub cond_left :
    {A : Type 0} (b : Bool) (x y z : A) →
    (y ≡ z → ◌≡◌ {A = ℕ} 0 1) →
    cond b x y ≡ z →
    (b ≡ true) × (x ≡ z)
cond_left true x y z clash e = (refl, e)
cond_left false x y z clash e = let never = clash e in absurd (omega arith)
