-- The members of the sets of guests, over any guest numbers.
use Prim.Native.Nat.{ℕ, zero, suc, ◌+◌, ◌/◌, ◌%◌, ◌^◌}
use mathlib.Core.Path.{◌≡◌, refl, sym, ap, ◌∙◌}
use mathlib.Core.Bool.{Bool, true, false, cond}
use native.Mathlib.Nat.{zero-add, div-one, zero-div, pow-succ'}
use native.Mathlib.Numerals.{one-add}
use native.Mathlib.Omega.{arith}
use lib.Dec.{eqb, eqb-zero-suc, eqb-suc-zero, eqb-suc-suc}
use lib.Pow.{shr-shr}
use borrow.Author.Tests.{eqb-true, eqb-false}
use Rattle.isa.specs.Tests.{◌or◌}
use Rattle.model.specs.declared.VmId.{VmId}
use Rattle.model.specs.declared.VmSet.{VmSet}
use Rattle.model.specs.State.{same_vm}
use Rattle.model.specs.VmSet.{has, none, only, with}
use Rattle.isa.proofs.Tests.{or_nothing}

-- Bits. The next bit of a number is that bit of its half.

bit_zero : (x : ℕ) → x / 2 ^ 0 % 2 ≡ x % 2
bit_zero x = ap (λ (y : ℕ). y % 2) (div-one x)

bit_suc : (x g : ℕ) → x / 2 ^ suc g % 2 ≡ x / 2 / 2 ^ g % 2
bit_suc x g =
    ap (λ (y : ℕ). y % 2) (ap (λ (k : ℕ). x / 2 ^ k) (sym (one-add g)) ∙ sym (shr-shr x 1 g))

-- a clear bit i set: bit i is 1, and the others stay
set_bit : (i g x : ℕ) → x / 2 ^ i % 2 ≡ 0 → (x + 2 ^ i) / 2 ^ g % 2 ≡ cond (eqb g i) 1 (x / 2 ^ g % 2)
set_bit zero zero x clear =
    let even : x % 2 ≡ 0 = sym (bit_zero x) ∙ clear in
    bit_zero (x + 1) ∙ omega arith
set_bit zero (suc g) x clear =
    let even : x % 2 ≡ 0 = sym (bit_zero x) ∙ clear in
    let half : (x + 1) / 2 ≡ x / 2 = omega arith in
    bit_suc (x + 1) g ∙ ap (λ (y : ℕ). y / 2 ^ g % 2) half ∙ sym (bit_suc x g) ∙ rw (eqb-suc-zero g)
set_bit (suc i) zero x clear =
    bit_zero (x + 2 ^ suc i) ∙ rw (pow-succ' 2 i, eqb-zero-suc i) (omega (arith, bit_zero x))
set_bit (suc i) (suc g) x clear =
    let half : (x + 2 ^ suc i) / 2 ≡ x / 2 + 2 ^ i = rw (pow-succ' 2 i) (omega arith) in
    bit_suc (x + 2 ^ suc i) g
    ∙ ap (λ (y : ℕ). y / 2 ^ g % 2) half
    ∙ set_bit i g (x / 2) (sym (bit_suc x i) ∙ clear)
    ∙ rw (eqb-suc-suc g i, bit_suc x g)

-- Members.

pub has_none : (g : VmId) → has g none ≡ false
unfolding has
has_none g = rw (zero-div (2 ^ g.0))

-- a bit that was clear is now i's alone
added : (g i x : ℕ) → x / 2 ^ i % 2 ≡ 0 → eqb ((x + 2 ^ i) / 2 ^ g % 2) 1 ≡ eqb g i or eqb (x / 2 ^ g % 2) 1
unfolding ◌or◌
added g i x clear = rw (set_bit i g x clear) (go (eqb g i))
  where
    go : (b : Bool) → eqb (cond b 1 (x / 2 ^ g % 2)) 1 ≡ b or eqb (x / 2 ^ g % 2) 1
    go true = refl
    go false = refl

pub has_only : (g i : VmId) → has g (only i) ≡ same_vm g i
unfolding has only same_vm
has_only g i =
    ap (λ (x : ℕ). eqb (x / 2 ^ g.0 % 2) 1) (sym (zero-add (2 ^ i.0)))
    ∙ added g.0 i.0 0 (rw (zero-div (2 ^ i.0)))
    ∙ rw (zero-div (2 ^ g.0)) (or_nothing (eqb g.0 i.0))

pub has_with : (g i : VmId) (s : VmSet) → has g (with i s) ≡ same_vm g i or has g s
unfolding has with same_vm ◌or◌
has_with g i s = go (eqb (s.0 / 2 ^ i.0 % 2) 1) refl
  where
    -- i is in s already, so if g is i, it is too
    already : (b : Bool) → eqb g.0 i.0 ≡ b → eqb (s.0 / 2 ^ i.0 % 2) 1 ≡ true → eqb (s.0 / 2 ^ g.0 % 2) 1 ≡ b or eqb (s.0 / 2 ^ g.0 % 2) 1
    already true e p = rw (eqb-true g.0 i.0 e) p
    already false e p = refl

    go : (b : Bool) → eqb (s.0 / 2 ^ i.0 % 2) 1 ≡ b → eqb (cond b s.0 (s.0 + 2 ^ i.0) / 2 ^ g.0 % 2) 1 ≡ eqb g.0 i.0 or eqb (s.0 / 2 ^ g.0 % 2) 1
    go true p = already (eqb g.0 i.0) refl p
    go false p = added g.0 i.0 s.0 (omega (arith, eqb-false (s.0 / 2 ^ i.0 % 2) 1 p))
