-- A set of guests fits a byte: a guest's own bit does, and so does a set with a bit more.
use Prim.Native.Nat.{ℕ, suc, ◌+◌, ◌-◌, ◌*◌, ◌/◌, ◌%◌, ◌^◌, ◌<◌}
use mathlib.Core.Path.{◌≡◌}
use mathlib.Core.Bool.{false}
use native.Mathlib.Nat.{pow-succ', add-div_right, div-lt_iff_lt-mul}
use native.Mathlib.Omega.{arith}
use lib.Pow.{pow_pos, pow-add, shr_lt}
use borrow.Author.Tests.{eqb-false}
use Rattle.model.specs.declared.VmId.{VmId}
use Rattle.model.specs.declared.VmSet.{VmSet}
use Rattle.model.specs.Constants.{GUESTS}
use Rattle.model.specs.VmSet.{has, only}

-- a clear bit g set: the number has no more digits than before
add_bit : (j g x : ℕ) → x < 2 ^ (suc j + g) → x / 2 ^ g % 2 ≡ 0 → x + 2 ^ g < 2 ^ (suc j + g)
add_bit j g x h clear =
    let above : x / 2 ^ g < 2 * 2 ^ j = rw pow-succ' at (shr_lt (suc j) g h) in
    let more : (x + 2 ^ g) / 2 ^ g < 2 * 2 ^ j = rw (add-div_right x (pow_pos g)) (omega arith) in
    rw (pow-add 2 (suc j) g, pow-succ' 2 j) ((div-lt_iff_lt-mul (pow_pos g)).0 more)

-- a guest that is not in a set fits beside its members
pub with_fits : (g : VmId) (set : VmSet) → g.0 < GUESTS → set.0 < 256 → has g set ≡ false → set.0 + (only g).0 < 256
unfolding has only
with_fits g set b h out =
    let digits : suc (7 - g.0) + g.0 ≡ 8 = omega arith in
    let clear : set.0 / 2 ^ g.0 % 2 ≡ 0 = omega (arith, eqb-false (set.0 / 2 ^ g.0 % 2) 1 out) in
    rw digits at (add_bit (7 - g.0) g.0 set.0 (rw digits h) clear)
