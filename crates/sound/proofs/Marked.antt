-- The laws of marks: which pages are marked, and that a page without a mark is one of no earlier guest or transaction.
use Prim.Native.Nat.{ℕ, zero, suc, ◌+◌, ◌<◌}
use mathlib.Core.Path.{◌≡◌, sym, ap, ◌∙◌}
use mathlib.Core.Bool.{Bool, true, false, not}
use mathlib.Core.List.{List}
use native.Mathlib.Decide.{ℕ_discrete}
use native.Mathlib.Numerals.{add-one}
use native.Mathlib.Omega.{arith}
use lib.ListN.{length, set, length-set, length-replicate, get_or-replicate}
use lib.Seq.{get_or-set_same, get_or-set_other}
use Rattle.isa.specs.Tests.{◌and◌, ◌or◌}
use Rattle.isa.proofs.Tests.{or_right, or_nothing, cannot_pass}
use Rattle.model.specs.declared.PageId.{PageId}
use Rattle.model.specs.declared.Mailbox.{Mailbox}
use Rattle.model.specs.declared.Transaction.{Transaction}
use Rattle.model.specs.Constants.{PAGES, HANDLES}
use Rattle.model.specs.Tests.{every, some, set_each}
use Rattle.model.specs.State.{vm, page, handle, same_page, mailbox_at, transaction_at, page_at, count_of}
use Rattle.model.specs.Due.{keeps, is_mailbox, holds}
use Rattle.model.specs.Sound.{apart, each_page, PagesBelow, pages_no_mailbox}
use Rattle.model.proofs.Tests.{length_set_each, every_same}
use Rattle.model.proofs.Same.{same_page_true, eq_same_page}
use Rattle.parts.specs.Reached.{Reached}
use Rattle.sound.specs.Marks.{unmarked, marked, with_box, box_marks, with_held, held_marks}
use Rattle.sound.proofs.Tested.{or_assoc, every_not, every_both, every_swap}

-- A mark is set: there it is, and the others stay.

marked_set : (l : List Bool) (k : ℕ) (p : PageId) → p.0 < length l → marked (set l k true) p ≡ (marked l p or same_page (page k) p)
unfolding marked
marked_set l k p h =
    elim (ℕ_discrete k p.0) [
      | yes q ↦ rw q (get_or-set_same l p.0 true false h) ∙ sym (or_right _ (eq_same_page (ap page q)))
      | no q ↦
          get_or-set_other l k p.0 true false (λ e. q (sym e))
          ∙ sym (rw (cannot_pass (λ e. q (ap (λ (x : PageId). x.0) (same_page_true (page k) p e)))) (or_nothing _))
    ]

marked_each :
    (n : ℕ) (place : ℕ → ℕ) (l : List Bool) (p : PageId) →
    p.0 < length l →
    marked (set_each n place (λ i. true) l) p ≡ (marked l p or some n (λ i. same_page (page (place i)) p))
unfolding set_each some
marked_each zero place l p h = sym (or_nothing _)
marked_each (suc n) place l p h =
    marked_set (set_each n place (λ i. true) l) (place n) p (omega (arith, length_set_each n place (λ i. true) l))
    ∙ rw (marked_each n place l p h) (or_assoc (marked l p) _ _)

unmarked_page : (p : PageId) → p.0 < PAGES → marked unmarked p ≡ false
unfolding marked
unmarked_page p h = get_or-replicate PAGES p.0 false false h

-- The mailbox pages of n guests are marked, and no others.

length_boxes : (n : ℕ) (boxes : List Mailbox) → length (box_marks n boxes) ≡ PAGES
unfolding box_marks with_box
length_boxes zero boxes = length-replicate PAGES false
length_boxes (suc n) boxes = simp length-set (length_boxes n boxes)

with_box_lem : (l : List Bool) (box : Mailbox) (p : PageId) → p.0 < length l → marked (with_box l box) p ≡ (marked l p or keeps box p)
unfolding with_box keeps
with_box_lem l box p h =
    marked_set (set l box.tx.0 true) box.rx.0 p (omega (arith, length-set l box.tx.0 true))
    ∙ rw (marked_set l box.tx.0 p h) (or_assoc (marked l p) _ _)

box_mark : (n : ℕ) (boxes : List Mailbox) (p : PageId) → p.0 < PAGES → marked (box_marks n boxes) p ≡ is_mailbox n boxes p
unfolding box_marks is_mailbox some
box_mark zero boxes p h = unmarked_page p h
box_mark (suc n) boxes p h =
    with_box_lem (box_marks n boxes) (mailbox_at boxes (vm n)) p (omega (arith, length_boxes n boxes))
    ∙ ap (λ (b : Bool). b or keeps (mailbox_at boxes (vm n)) p) (box_mark n boxes p h)

-- The pages that n transactions hold are marked, and no others.

length_held : (n : ℕ) (transactions : List Transaction) → length (held_marks n transactions) ≡ PAGES
unfolding held_marks with_held
length_held zero transactions = length-replicate PAGES false
length_held (suc n) transactions =
    length_set_each _ (λ i. (page_at (transaction_at transactions (handle n)) i).0) _ (held_marks n transactions)
    ∙ length_held n transactions

with_held_lem : (l : List Bool) (t : Transaction) (p : PageId) → p.0 < length l → marked (with_held l t) p ≡ (marked l p or holds t p)
unfolding with_held holds
with_held_lem l t p h = marked_each (count_of t) (λ i. (page_at t i).0) l p h

held_mark :
    (n : ℕ) (transactions : List Transaction) (p : PageId) →
    p.0 < PAGES →
    marked (held_marks n transactions) p ≡ some n (λ k. holds (transaction_at transactions (handle k)) p)
unfolding held_marks some
held_mark zero transactions p h = unmarked_page p h
held_mark (suc n) transactions p h =
    with_held_lem (held_marks n transactions) (transaction_at transactions (handle n)) p (omega (arith, length_held n transactions))
    ∙ ap (λ (b : Bool). b or holds (transaction_at transactions (handle n)) p) (held_mark n transactions p h)

-- One guest more, one transaction more.

pub box_more : (g : ℕ) (boxes : List Mailbox) {seen : List Bool}
    → seen ≡ box_marks g boxes → with_box seen (mailbox_at boxes (vm g)) ≡ box_marks (g + 1) boxes
unfolding box_marks
box_more g boxes e = rw (add-one g, e)

pub held_more : (h : ℕ) (transactions : List Transaction) {seen : List Bool}
    → seen ≡ held_marks h transactions → with_held seen (transaction_at transactions (handle h)) ≡ held_marks (h + 1) transactions
unfolding held_marks
held_more h transactions e = rw (add-one h, e)

-- A guest's two pages differ from each other and from those of the guests before it: neither of them is marked.

abbrev pub alone : List Mailbox → ℕ → Bool
alone boxes g =
    not (same_page (mailbox_at boxes (vm g)).tx (mailbox_at boxes (vm g)).rx)
    and every g (λ k. apart (mailbox_at boxes (vm g)) (mailbox_at boxes (vm k)))

no_box_mark :
    (n : ℕ) (boxes : List Mailbox) (p : PageId) →
    p.0 < PAGES →
    every n (λ k. not (keeps (mailbox_at boxes (vm k)) p)) ≡ not (marked (box_marks n boxes) p)
unfolding is_mailbox
no_box_mark n boxes p h = every_not n (λ k. keeps (mailbox_at boxes (vm k)) p) ∙ ap not (sym (box_mark n boxes p h))

apart_fresh :
    (n : ℕ) (boxes : List Mailbox) (box : Mailbox) →
    (box.tx.0 < PAGES) × (box.rx.0 < PAGES) →
    every n (λ k. apart box (mailbox_at boxes (vm k)))
    ≡ (not (marked (box_marks n boxes) box.tx) and not (marked (box_marks n boxes) box.rx))
unfolding apart
apart_fresh n boxes box below =
    every_both n (λ k. not (keeps (mailbox_at boxes (vm k)) box.tx)) (λ k. not (keeps (mailbox_at boxes (vm k)) box.rx))
    ∙ rw (no_box_mark n boxes box.tx below.0, no_box_mark n boxes box.rx below.1)

pub alone_fresh :
    (g : ℕ) (boxes : List Mailbox) {seen : List Bool} →
    ((mailbox_at boxes (vm g)).tx.0 < PAGES) × ((mailbox_at boxes (vm g)).rx.0 < PAGES) →
    seen ≡ box_marks g boxes →
    alone boxes g
    ≡ (not (same_page (mailbox_at boxes (vm g)).tx (mailbox_at boxes (vm g)).rx)
    and not (marked seen (mailbox_at boxes (vm g)).tx)
    and not (marked seen (mailbox_at boxes (vm g)).rx))
alone_fresh g boxes below e = rw (e, apart_fresh g boxes (mailbox_at boxes (vm g)) below)

-- The pages of transaction h are in none before it: none of them is marked.

abbrev pub anew : List Transaction → ℕ → Bool
anew transactions h =
    every h (λ k.
    every (count_of (transaction_at transactions (handle h))) (λ i.
    not (holds (transaction_at transactions (handle k)) (page_at (transaction_at transactions (handle h)) i))))

pub anew_fresh :
    (h : ℕ) (transactions : List Transaction) {seen : List Bool} →
    Reached (transaction_at transactions (handle h)) →
    seen ≡ held_marks h transactions →
    anew transactions h
    ≡ every (count_of (transaction_at transactions (handle h))) (λ i. not (marked seen (page_at (transaction_at transactions (handle h)) i)))
anew_fresh h transactions reached e =
    rw
    e
    (every_swap h _ (λ k i. not (holds (transaction_at transactions (handle k)) (page_at (transaction_at transactions (handle h)) i)))
    ∙ every_same _ _ _ (λ i b.
    every_not h (λ k. holds (transaction_at transactions (handle k)) (page_at (transaction_at transactions (handle h)) i))
    ∙ ap not (sym (held_mark h transactions _ (reached.below i b)))))

-- The transactions' pages are none of the n guests' mailbox pages: none of them is marked.

pub no_mailbox_fresh :
    (n : ℕ) (boxes : List Mailbox) (transactions : List Transaction) {seen : List Bool} →
    PagesBelow PAGES transactions →
    seen ≡ box_marks n boxes →
    pages_no_mailbox n boxes transactions ≡ each_page transactions (λ p. not (marked seen p))
unfolding pages_no_mailbox each_page
no_mailbox_fresh n boxes transactions below e =
    rw e (every_same HANDLES _ _ (λ h l. every_same _ _ _ (λ i b. ap not (sym (box_mark n boxes _ (below h i l b))))))
