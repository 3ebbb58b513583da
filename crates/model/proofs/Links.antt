-- Links: a computed test and the fact that it stands for, each proved from the other. There is a link for each kind of
-- test, from the links of its parts: what is linked reads like the test.
use Rattle.model.specs.State.{message, same_vm, same_page, is_empty, page_at, count_of}
use Rattle.std.specs.Prelude.{Option, None, Some}
use Rattle.model.specs.declared.Message.{Message}
use Prim.Native.Nat.{ℕ, suc, ◌≤◌, ◌<◌}
use mathlib.Core.Path.{◌≡◌, refl, ap}
use mathlib.Core.Bool.{Bool, true, false, not, false≢true}
use mathlib.Core.Logic.{inl, inr}
use native.Mathlib.Omega.{arith}
use lib.Dec.{ltb, leb, eqb}
use borrow.Author.Tests.{ltb-true, ltb-false, leb-true, eqb-true, not-true, lt-ltb, le-ltb, le-leb, eq-eqb}
use Rattle.isa.specs.Tests.{◌and◌, ◌or◌}
use Rattle.model.specs.declared.VmId.{VmId}
use Rattle.model.specs.declared.PageId.{PageId}
use Rattle.model.specs.declared.Mailbox.{Mailbox}
use Rattle.model.specs.declared.PageRecord.{PageRecord}
use Rattle.model.specs.declared.Deal.{Deal}
use Rattle.model.specs.declared.Transaction.{Transaction}
use Rattle.model.specs.Tests.{every, ascending}
use Rattle.model.specs.Row.{same_record}
use Rattle.model.specs.Due.{keeps, holds}
use Rattle.model.specs.Sound.{if_live, if_full, if_owned}
use Rattle.isa.proofs.Tests.{not_both, cannot_pass, false_not, and_left, and_right, and_intro, and_false_right, and_false, or_else, or_either, or_left, or_right}
use Rattle.model.proofs.Tests.{every_at, at_every, at_some, some_at, ascending_at, at_ascending}
use Rattle.model.proofs.Same.{same_vm_true, eq_same_vm, same_page_true, eq_same_page, same_record_true, eq_same_record}

pub record Link (test : Bool) (Fact : Type 0) : Type 0 where
  pub holds : test ≡ true → Fact
  pub passes : Fact → test ≡ true

-- the fact said in another way
pub said : {t : Bool} {A B : Type 0} → Link t A → (A → B) → (B → A) → Link t B
said x there back = record { holds = λ e. there (x.holds e); passes = λ b. x.passes (back b) }

-- Numbers, guests, pages and page records.

pub ltb_link : {a b : ℕ} → Link (ltb a b) (a < b)
ltb_link = record { holds = ltb-true _ _; passes = lt-ltb _ _ }

pub leb_link : {a b : ℕ} → Link (leb a b) (a ≤ b)
leb_link = record { holds = leb-true _ _; passes = le-leb _ _ }

pub eqb_link : {a b : ℕ} → Link (eqb a b) (a ≡ b)
eqb_link = record { holds = eqb-true _ _; passes = eq-eqb _ _ }

pub same_vm_link : {g k : VmId} → Link (same_vm g k) (g ≡ k)
same_vm_link = record { holds = same_vm_true _ _; passes = eq_same_vm }

pub same_page_link : {p q : PageId} → Link (same_page p q) (p ≡ q)
same_page_link = record { holds = same_page_true _ _; passes = eq_same_page }

pub same_record_link : {a b : PageRecord} → Link (same_record a b) (a ≡ b)
same_record_link = record { holds = same_record_true _ _; passes = eq_same_record }

-- Tests joined.

pub fails_link : {a : Bool} → Link (not a) (a ≡ false)
fails_link = record { holds = not-true _; passes = false_not }

pub never_link : {a : Bool} → Link (not a) (a ≡ true → ⊥)
never_link = said fails_link (λ f p. not_both p f) cannot_pass

pub not_link : {a : Bool} {A : Type 0} → Link a A → Link (not a) (A → ⊥)
not_link x = said never_link (λ h c. h (x.passes c)) (λ h e. h (x.holds e))

pub not_and_link : {a b : Bool} → Link (not (a and b)) (a ≡ true → b ≡ false)
not_and_link = said fails_link (and_false_right _ _) (and_false _ _)

infixr 35 ◌both◌
pub ◌both◌ : {a b : Bool} {A B : Type 0} → Link a A → Link b B → Link (a and b) (A × B)
x both y =
    record {
      holds = λ e. (x.holds (and_left _ _ e), y.holds (and_right _ _ e));
      passes = λ c. and_intro (x.passes c.0) (y.passes c.1);
    }

or_unless : {a b : Bool} → (a ≡ false → b ≡ true) → a or b ≡ true
unfolding ◌or◌
or_unless {a = true} h = refl
or_unless {a = false} h = h refl

-- the test counts from n on
pub from_link : {i n : ℕ} {b : Bool} {B : Type 0} → Link b B → Link (ltb i n or b) (n ≤ i → B)
from_link x =
    record {
      holds = λ e l. x.holds (or_else _ _ e (le-ltb _ _ l));
      passes = λ h. or_unless (λ q. x.passes (h (ltb-false _ _ q)));
    }

-- Tests of the fields of a record W, joined: for each field how to read it, and the link of its test; then how the record
-- is made of them, which `search` finds.

infixr 35 ◌also◌
pub ◌also◌ : {W A B : Type 0} {a b : Bool}
    → (W → A) × Link a A → (W → B) × Link b B → (W → A × B) × Link (a and b) (A × B)
x also y = (λ w. (x.0 w, y.0 w), x.1 both y.1)

infixl 30 ◌make◌
pub ◌make◌ : {W A : Type 0} {t : Bool} → (W → A) × Link t A → (A → W) → Link t W
x make whole = said x.1 whole x.0

-- Every number below n.

pub every_link : {n : ℕ} {f : ℕ → Bool} {Fact : ℕ → Type 0}
    → ((k : ℕ) → Link (f k) (Fact k)) → Link (every n f) ((k : ℕ) → k < n → Fact k)
every_link x =
    record {
      holds = λ e k b. (x k).holds (every_at _ _ e k b);
      passes = λ h. at_every _ _ (λ k b. (x k).passes (h k b));
    }

-- the fact is about one or two more things, which are named before it is said that the number is below n
pub every_of_link : {n : ℕ} {f : ℕ → Bool} {A : Type 0} {Fact : ℕ → A → Type 0}
    → ((k : ℕ) → Link (f k) ((a : A) → Fact k a)) → Link (every n f) ((k : ℕ) (a : A) → k < n → Fact k a)
every_of_link x = said (every_link x) (λ h k a b. h k b a) (λ h k b a. h k a b)

pub every_of_two_link : {n : ℕ} {f : ℕ → Bool} {A B : Type 0} {Fact : ℕ → A → B → Type 0}
    → ((k : ℕ) → Link (f k) ((a : A) (b : B) → Fact k a b))
    → Link (every n f) ((k : ℕ) (a : A) (b : B) → k < n → Fact k a b)
every_of_two_link x = said (every_link x) (λ h k a b l. h k l a b) (λ h k l a b. h k a b l)

pub ascending_link : {n : ℕ} {f : ℕ → ℕ} → Link (ascending n f) ((i : ℕ) → suc i < n → f i < f (suc i))
ascending_link = record { holds = ascending_at _ _; passes = at_ascending _ _ }

-- The deal of a live transaction, the message that waits, the owner of an owned page.

pub if_live_link : {life : Option Deal} {test : Deal → Bool} {Fact : Deal → Type 0}
    → ((d : Deal) → Link (test d) (Fact d)) → Link (if_live life test) ((d : Deal) → life ≡ Some d → Fact d)
unfolding if_live
if_live_link {life} {test} {Fact} x =
    record {
      holds = λ e d q. (x d).holds (rw q at e);
      passes =
          elim life as (λ l. ((d : Deal) → l ≡ Some d → Fact d) → if_live l test ≡ true)
          [ None ↦ λ c. refl | Some d ↦ λ c. (x d).passes (c d refl) ];
    }

pub if_full_link : {inbox : Option Message} {test : ℕ → VmId → Bool} {Fact : ℕ → VmId → Type 0}
    → ((length : ℕ) (sender : VmId) → Link (test length sender) (Fact length sender))
    → Link (if_full inbox test) ((length : ℕ) (sender : VmId) → inbox ≡ Some (message length sender) → Fact length sender)
unfolding if_full
if_full_link {inbox} {test} {Fact} x =
    record {
      holds = λ e length sender q. (x length sender).holds (rw q at e);
      passes =
          elim inbox as (λ b. ((length : ℕ) (sender : VmId) → b ≡ Some (message length sender) → Fact length sender) → if_full b test ≡ true)
          [ None ↦ λ c. refl | Some message ↦ λ c. (x message.length message.sender).passes (c message.length message.sender refl) ];
    }

pub is_empty_link : {inbox : Option Message} → Link (is_empty inbox) (inbox ≡ None)
unfolding is_empty
is_empty_link {inbox} =
    record { holds = elim inbox as (λ b. is_empty b ≡ true → b ≡ None) [ None ↦ λ e. refl | Some message ↦ λ e. absurd (false≢true e) ]; passes = ap is_empty }

pub if_owned_link : {owner : Option VmId} {test : VmId → Bool} {Fact : VmId → Type 0}
    → ((g : VmId) → Link (test g) (Fact g)) → Link (if_owned owner test) ((g : VmId) → owner ≡ Some g → Fact g)
unfolding if_owned
if_owned_link {owner} {test} {Fact} x =
    record {
      holds = λ e g q. (x g).holds (rw q at e);
      passes =
          elim owner as (λ o. ((g : VmId) → o ≡ Some g → Fact g) → if_owned o test ≡ true)
          [ None ↦ λ c. refl | Some g ↦ λ c. (x g).passes (c g refl) ];
    }

-- A fact about each page of a mailbox or of a transaction.

pub keeps_link : {t : Bool} (box : Mailbox) {Fact : PageId → Type 0}
    → Link t (Fact box.tx × Fact box.rx) → Link t ((p : PageId) → keeps box p ≡ true → Fact p)
unfolding keeps
keeps_link box x =
    said
    x
    (λ c p k. elim (or_either _ _ k) [ inl q ↦ rw (← same_page_true _ _ q) c.0 | inr q ↦ rw (← same_page_true _ _ q) c.1 ])
    (λ h. (h _ (or_left _ (eq_same_page refl)), h _ (or_right _ (eq_same_page refl))))

pub holds_link : {t : Bool} (u : Transaction) {Fact : PageId → Type 0}
    → Link t ((i : ℕ) → i < count_of u → Fact (page_at u i)) → Link t ((p : PageId) → holds u p ≡ true → Fact p)
unfolding holds
holds_link u x =
    said
    x
    (λ c p k. let found = some_at _ _ k in rw (← same_page_true _ _ found.2) (c found.0 found.1))
    (λ h i b. h _ (at_some _ _ i b (eq_same_page refl)))

-- No page is in two of n places: none is in a place and an earlier one.

module _ {n : ℕ} {has : ℕ → PageId → Bool} where
  pub at_most_one : ((g : ℕ) → g < n → (k : ℕ) → k < g → (p : PageId) → has g p ≡ true → has k p ≡ true → ⊥)
      → (g k : ℕ) (p : PageId) → g < n → k < n → has g p ≡ true → has k p ≡ true → g ≡ k
  at_most_one h g k p b c x y =
      let k-first : k < g → ⊥ = λ l. h g b k l p x y in
      let g-first : g < k → ⊥ = λ l. h k c g l p y x in
      omega arith

  pub none_earlier : ((g k : ℕ) (p : PageId) → g < n → k < n → has g p ≡ true → has k p ≡ true → g ≡ k)
      → (g : ℕ) → g < n → (k : ℕ) → k < g → (p : PageId) → has g p ≡ true → has k p ≡ true → ⊥
  none_earlier h g b k l p x y = omega (arith, h g k p b (omega arith) x y)
