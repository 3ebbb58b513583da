-- What a word names: a guest or a page where the test of its range passes, and nothing where it fails.
use Rattle.std.specs.Prelude.{Option, None, Some}
use Prim.Native.Nat.{ℕ, ◌≤◌, ◌<◌}
use mathlib.Core.Path.{◌≡◌, refl}
use mathlib.Core.Bool.{Bool, true, false, cond}
use native.Mathlib.Omega.{arith}
use lib.Dec.{ltb}
use borrow.Author.Tests.{lt-ltb, le-ltb, ltb-true}
use Rattle.isa.proofs.Tests.{cond_left}
use Rattle.model.specs.declared.VmId.{VmId}
use Rattle.model.specs.declared.PageId.{PageId}
use Rattle.model.specs.State.{vm}
use Rattle.model.specs.Rights.{page_of}
use Rattle.model.specs.Sending.{is_base}
use Rattle.parts.specs.Numbers.{vm_of, page_at_base}

-- a choice that is not its first side is its second
cond_right : {A : Type 0} (b : Bool) (x y z : A) → (x ≡ z → ◌≡◌ {A = ℕ} 0 1) → cond b x y ≡ z → b ≡ false
cond_right true x y z clash e = let never = clash e in absurd (omega arith)
cond_right false x y z clash e = refl

pub vm_below : (w n : ℕ) → w < n → Some (vm w) ≡ vm_of w n
unfolding vm_of
vm_below w n h = rw (lt-ltb w n h)

pub vm_beyond : (w n : ℕ) → n ≤ w → None ≡ vm_of w n
unfolding vm_of
vm_beyond w n h = rw (le-ltb w n h)

pub vm_found : (w n : ℕ) {g : VmId} → vm_of w n ≡ Some g → (ltb w n ≡ true) × (vm w ≡ g)
unfolding vm_of
vm_found w n {g} e =
    let found : (ltb w n ≡ true) × (◌≡◌ {A = Option VmId} (Some (vm w)) (Some g)) = cond_left _ _ _ _ (λ q. cc) e in
    (found.0, cc)

pub named_below : (w n : ℕ) {g : VmId} → vm_of w n ≡ Some g → g.0 < n
named_below w n e =
    let guest = vm_found w n e in
    let below : w < n = ltb-true _ _ guest.0 in
    rw (← guest.1) below

pub no_vm : (w n : ℕ) → vm_of w n ≡ None → ltb w n ≡ false
unfolding vm_of
no_vm w n e = cond_right (ltb w n) (Some (vm w)) None None (λ q. cc) e

pub page_based : (x m : ℕ) → is_base m x ≡ true → Some (page_of x) ≡ page_at_base x m
unfolding page_at_base
page_based x m e = rw e

pub page_missed : (x m : ℕ) → is_base m x ≡ false → None ≡ page_at_base x m
unfolding page_at_base
page_missed x m e = rw e

pub page_found : (x m : ℕ) {p : PageId} → page_at_base x m ≡ Some p → (is_base m x ≡ true) × (page_of x ≡ p)
unfolding page_at_base
page_found x m {p} e =
    let found : (is_base m x ≡ true) × (◌≡◌ {A = Option PageId} (Some (page_of x)) (Some p)) = cond_left _ _ _ _ (λ q. cc) e in
    (found.0, cc)

pub no_page : (x m : ℕ) → page_at_base x m ≡ None → is_base m x ≡ false
unfolding page_at_base
no_page x m e = cond_right (is_base m x) (Some (page_of x)) None None (λ q. cc) e
