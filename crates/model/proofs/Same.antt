-- The tests for equality are equality: of guests, pages, sets of guests, owners and page records.
use Rattle.std.specs.Prelude.{Option, None, Some}
use Rattle.std.specs.Option.{option_eq}
use lib.Dec.{eqb}
use mathlib.Core.Path.{◌≡◌, refl, ap}
use mathlib.Core.Bool.{true, false≢true, beq, ◌&&◌}
use borrow.Author.Tests.{eqb-true, eq-eqb}
use Rattle.model.specs.declared.VmId.{VmId}
use Rattle.model.specs.declared.PageId.{PageId}
use Rattle.model.specs.declared.VmSet.{VmSet}
use Rattle.model.specs.declared.PageRecord.{PageRecord}
use Rattle.model.specs.State.{vm, page, same_vm, same_page}
use Rattle.model.specs.VmSet.{same_set}
use Rattle.model.specs.Row.{same_owner, same_record}
use Rattle.isa.proofs.Tests.{and_left, and_right, and_intro}
use Rattle.model.proofs.Tests.{agree_true, eq_agree, beq_agree, both_and}

pub same_vm_true : (g k : VmId) → same_vm g k ≡ true → g ≡ k
unfolding same_vm
same_vm_true g k e = ap vm (eqb-true g.0 k.0 e)

pub eq_same_vm : {g k : VmId} → g ≡ k → same_vm g k ≡ true
unfolding same_vm
eq_same_vm {g} {k} p = eq-eqb g.0 k.0 (λ i. (p i).0)

pub same_page_true : (p q : PageId) → same_page p q ≡ true → p ≡ q
unfolding same_page
same_page_true p q e = ap page (eqb-true p.0 q.0 e)

pub eq_same_page : {p q : PageId} → p ≡ q → same_page p q ≡ true
unfolding same_page
eq_same_page {p} {q} e = eq-eqb p.0 q.0 (λ i. (e i).0)

pub same_set_true : (a b : VmSet) → same_set a b ≡ true → a ≡ b
unfolding same_set
same_set_true a b e = let p = eqb-true a.0 b.0 e in λ i. record { 0 = p i }

pub eq_same_set : {a b : VmSet} → a ≡ b → same_set a b ≡ true
unfolding same_set
eq_same_set {a} {b} p = eq-eqb a.0 b.0 (λ i. (p i).0)

pub same_owner_true : (a b : Option VmId) → same_owner a b ≡ true → a ≡ b
unfolding same_owner
same_owner_true None None e = refl
same_owner_true None (Some k) e = absurd (false≢true e)
same_owner_true (Some g) None e = absurd (false≢true e)
same_owner_true (Some g) (Some k) e = ap Some (same_vm_true g k e)

same_owner_self : (a : Option VmId) → same_owner a a ≡ true
unfolding same_owner
same_owner_self None = refl
same_owner_self (Some g) = eq_same_vm refl

pub eq_same_owner : {a b : Option VmId} → a ≡ b → same_owner a b ≡ true
eq_same_owner {a} {b} p = rw p (same_owner_self b)

pub same_record_true : (a b : PageRecord) → same_record a b ≡ true → a ≡ b
unfolding same_record
same_record_true a b e =
    let owner = same_owner_true a.owner b.owner (and_left _ _ e) in
    let access = same_set_true a.access b.access (and_left _ _ (and_right _ _ e)) in
    let exclusive = agree_true a.exclusive b.exclusive (and_right _ _ (and_right _ _ e)) in
    λ i. record { owner = owner i; access = access i; exclusive = exclusive i }

pub eq_same_record : {a b : PageRecord} → a ≡ b → same_record a b ≡ true
unfolding same_record
eq_same_record p =
    and_intro (eq_same_owner (λ i. (p i).owner)) (and_intro (eq_same_set (λ i. (p i).access)) (eq_agree (λ i. (p i).exclusive)))

-- What the code's derived comparison of two records computes is the test.

compared_owners : (a b : Option VmId) → option_eq (λ (g k : VmId). eqb g.0 k.0) a b ≡ same_owner a b
unfolding same_owner same_vm
compared_owners None None = refl
compared_owners None (Some k) = refl
compared_owners (Some g) None = refl
compared_owners (Some g) (Some k) = refl

pub compared_records : (a b : PageRecord)
    → (option_eq (λ (g k : VmId). eqb g.0 k.0) a.owner b.owner && (eqb a.access.0 b.access.0 && beq a.exclusive b.exclusive)) ≡ same_record a b
unfolding same_record same_set
compared_records a b = rw (compared_owners a.owner b.owner, beq_agree a.exclusive b.exclusive, both_and, both_and)
