-- The rows that are laid out are those that the table asks for.
use Rattle.std.specs.Prelude.{Option, None, Some}
use Rattle.model.specs.declared.Deal.{Deal}
use Rattle.model.specs.declared.VmId.{VmId}
use Prim.Native.Nat.{ℕ, zero, suc, ◌+◌, ◌≤◌, ◌<◌}
use mathlib.Core.Path.{◌≡◌, refl, sym, ap, ◌∙◌}
use mathlib.Core.Bool.{Bool, true, false}
use mathlib.Core.List.{List}
use mathlib.Core.Logic.{inl, inr}
use native.Mathlib.Nat.{eq-or-lt_of_le, le_of_suc-le-suc, le_antisymm}
use native.Mathlib.Numerals.{add-one}
use native.Mathlib.Decide.{dec_lt}
use native.Mathlib.Omega.{arith}
use lib.ListN.{length, set, length-set}
use Rattle.isa.proofs.Tests.{not_both, cannot_pass, or_either, or_false_left, or_false_right}
use Rattle.model.specs.declared.PageId.{PageId}
use Rattle.model.specs.declared.Mailbox.{Mailbox}
use Rattle.model.specs.declared.PageRecord.{PageRecord}
use Rattle.model.specs.declared.Transaction.{Transaction}
use Rattle.model.specs.Constants.{PAGES, HANDLES}
use Rattle.model.specs.Tests.{every, first}
use Rattle.model.specs.State.{vm, page, handle, same_page, mailbox_at, record_at, transaction_at, page_at, count_in, count_of}
use Rattle.model.specs.Row.{mailbox_row, free_row, same_record}
use Rattle.model.specs.Deeds.{recorded}
use Rattle.model.specs.Due.{keeps, is_mailbox, keeper, holds, holder, due_in, due}
use Rattle.model.specs.Sound.{records_due}
use Rattle.model.proofs.Tests.{at_some, some_at, first_passes, passes_first, before_first, length_set_each, set_each_same, set_each_other, set_each_in_order, every_same}
use Rattle.model.proofs.Same.{same_page_true, eq_same_page}
use Rattle.model.proofs.State.{row_same, row_other}
use Rattle.model.proofs.Due.{held_at, due_mailbox, due_in_lem, due_free}
use Rattle.model.proofs.Sound.{mailboxes_differ_link, no_page_twice_link}
use Rattle.sound.specs.Rows.{free_rows, with_row, box_row, laid, held_rows, box_rows, Usable}
use Rattle.sound.proofs.Tested.{either}

-- A loop that lays rows over rows: it goes on past i, it has come to the end.

pub laid_more : (i : ℕ) (put : ℕ → List PageRecord → List PageRecord) (rows : List PageRecord) {now : List PageRecord}
    → now ≡ laid i put rows → put i now ≡ laid (i + 1) put rows
unfolding laid
laid_more i put rows e = rw (add-one i, e)

pub laid_whole : {i n : ℕ} (put : ℕ → List PageRecord → List PageRecord) (rows : List PageRecord) {now : List PageRecord}
    → i ≤ n → n ≤ i → now ≡ laid i put rows → now ≡ laid n put rows
laid_whole put rows h b e = rw (le_antisymm b h) e

-- A record after one is set: at the page, at another, and where it was the new one before.

record_there : (rows : List PageRecord) (q p : PageId) (new : PageRecord) → same_page q p ≡ true → p.0 < length rows
    → record_at (set rows q.0 new) p ≡ new
record_there rows q p new e fits = rw (same_page_true q p e) (row_same rows p new fits)

record_elsewhere : (rows : List PageRecord) (q p : PageId) (new : PageRecord) → same_page q p ≡ false
    → record_at (set rows q.0 new) p ≡ record_at rows p
record_elsewhere rows q p new e = row_other rows q p new (λ same. not_both (eq_same_page (ap page (sym same))) e)

record_still : (rows : List PageRecord) (q p : PageId) (new : PageRecord) → record_at rows p ≡ new → p.0 < length rows
    → record_at (set rows q.0 new) p ≡ new
record_still rows q p new e fits =
    either (same_page q p) (λ s. record_there rows q p new s fits) (λ s. record_elsewhere rows q p new s ∙ e)

-- What is put over the rows keeps their number, and is seen at the pages that its owner has and at no others.

record Puts (has : PageId → Bool) (new : PageRecord) (put : List PageRecord → List PageRecord) : Type 0 where
  as_long : (rows : List PageRecord) → length (put rows) ≡ length rows
  there : (rows : List PageRecord) (p : PageId) → has p ≡ true → p.0 < length rows → record_at (put rows) p ≡ new
  elsewhere : (rows : List PageRecord) (p : PageId) → has p ≡ false → record_at (put rows) p ≡ record_at rows p

box_puts : (box : Mailbox) (new : PageRecord) → Puts (keeps box) new (box_row box new)
unfolding box_row keeps
box_puts box new =
    record {
      as_long = λ rows. simp length-set;
      there = λ rows p e fits.
          let one : List PageRecord = set rows box.tx.0 new in
          let long : p.0 < length one = omega (arith, length-set rows box.tx.0 new) in
          elim (or_either _ _ e) [
            | inl q ↦ record_still one box.rx p new (record_there rows box.tx p new q fits) long
            | inr q ↦ record_there one box.rx p new q long
          ];
      elsewhere = λ rows p e.
          record_elsewhere _ box.rx p new (or_false_right _ _ e)
          ∙ record_elsewhere rows box.tx p new (or_false_left _ _ e);
    }

-- a free transaction has no pages, so the row that it would put is never seen
used_row : (t : Transaction) (i : ℕ) (owner : Option VmId) → i < count_of t → due_in t.deal None ≡ due_in t.deal owner
unfolding due_in count_of count_in
used_row t i owner b = go t.deal b
  where
    go : (life : Option Deal) → i < count_in life → due_in life None ≡ due_in life owner
    go None c = absurd (omega arith)
    go (Some d) c = refl

deal_puts : (t : Transaction) (owner : Option VmId) → Puts (holds t) (due_in t.deal owner) (with_row t)
unfolding holds with_row recorded record_at
deal_puts t owner =
    record {
      as_long = λ rows. length_set_each (count_of t) _ _ rows;
      there = λ rows p e fits.
          let at = held_at t p e in
          set_each_same (count_of t) (λ i. (page_at t i).0) _ rows p.0 _ at.0 at.1 (ap (λ (q : PageId). q.0) at.2) fits ∙ used_row t at.0 owner at.1;
      elsewhere = λ rows p e.
          set_each_other (count_of t) (λ i. (page_at t i).0) _ rows p.0 _
          (λ i b q. not_both (at_some (count_of t) (λ k. same_page (page_at t k) p) i b (eq_same_page (ap page q))) e);
    }

-- What is laid over the rows, seen at page p: the row of the one that has it, or what was there before.

module _ {has : ℕ → PageId → Bool} {new : ℕ → PageRecord} {put : ℕ → List PageRecord → List PageRecord}
    (puts : (k : ℕ) → Puts (has k) (new k) (put k)) (rows : List PageRecord) (p : PageId) where
  length_laid : (n : ℕ) → length (laid n put rows) ≡ length rows
  unfolding laid
  length_laid zero = refl
  length_laid (suc n) = (puts n).as_long (laid n put rows) ∙ length_laid n

  laid_none : (n : ℕ) → ((k : ℕ) → k < n → has k p ≡ false) → record_at (laid n put rows) p ≡ record_at rows p
  unfolding laid
  laid_none zero none = refl
  laid_none (suc n) none =
      (puts n).elsewhere (laid n put rows) p (none n (omega arith)) ∙ laid_none n (λ k b. none k (omega arith))

  laid_one : (n k : ℕ) → k < n → has k p ≡ true → ((j : ℕ) → j < n → has j p ≡ true → new j ≡ new k) → p.0 < length rows
      → record_at (laid n put rows) p ≡ new k
  unfolding laid
  laid_one zero k b e same fits = absurd (omega arith)
  laid_one (suc n) k b e same fits =
      either
      (has n p)
      (λ x. (puts n).there (laid n put rows) p x (omega (arith, length_laid n)) ∙ same n (omega arith) x)
      (λ x.
      (puts n).elsewhere (laid n put rows) p x
      ∙ elim (eq-or-lt_of_le (le_of_suc-le-suc b)) [
        | inl q ↦ absurd (not_both (rw q at e) x)
        | inr l ↦ laid_one n k l e (λ j c. same j (omega arith)) fits
      ])

-- The whole layout at page p: first what stands there before the mailboxes, if it is none of theirs.

module _ (n m : ℕ) (boxes : List Mailbox) (transactions : List Transaction) (records : List PageRecord)
    (usable : Usable n m boxes transactions records) (sixty_four : length records ≡ PAGES)
    (sixteen : length transactions ≡ HANDLES) (p : ℕ) (b : p < m) where
  below : p < PAGES
  below = omega (arith, usable.sixty_four_pages)

  free_due : record_at (free_rows m records) (page p) ≡ free_row (record_at records (page p)).owner
  unfolding free_rows record_at
  free_due = set_each_in_order m _ records p _ b (omega (arith, below))

  length_free : length (free_rows m records) ≡ PAGES
  unfolding free_rows
  length_free = length_set_each m _ _ records ∙ sixty_four

  abbrev row_at : ℕ → PageRecord
  row_at h = due_in (transaction_at transactions (handle h)).deal (record_at records (page p)).owner

  all_put : (h : ℕ) → Puts (holds (transaction_at transactions (handle h))) (row_at h) (with_row (transaction_at transactions (handle h)))
  all_put h = deal_puts _ _

  held_row_due : (h : ℕ) → h < HANDLES → holds (transaction_at transactions (handle h)) (page p) ≡ true
      → record_at (held_rows HANDLES transactions (free_rows m records)) (page p) ≡ row_at h
  unfolding held_rows
  held_row_due h l e =
      let once = (no_page_twice_link transactions).holds usable.no_page_twice in
      laid_one all_put _ (page p) HANDLES h l e (λ j d f. ap row_at (once j h (page p) d l f e)) (omega (arith, below, length_free))

  held_due : is_mailbox n boxes (page p) ≡ false
      → record_at (held_rows HANDLES transactions (free_rows m records)) (page p)
      ≡ due n boxes transactions (record_at records (page p)).owner (page p)
  unfolding held_rows holder
  held_due no_box =
      let has : ℕ → Bool = λ h. holds (transaction_at transactions (handle h)) (page p) in
      elim (dec_lt (first HANDLES has) HANDLES) [
        | yes l ↦
            held_row_due _ l (first_passes HANDLES has l) ∙ sym (due_in_lem n boxes transactions _ (page p) _ no_box refl)
        | no l ↦
            let none : (h : ℕ) → h < HANDLES → has h ≡ false = λ h c. before_first HANDLES has h (omega arith) in
            laid_none all_put _ (page p) HANDLES none
            ∙ free_due
            ∙ sym (due_free n boxes transactions _ (page p) sixteen none no_box)
      ]

  length_held : length (held_rows HANDLES transactions (free_rows m records)) ≡ PAGES
  unfolding held_rows
  length_held = length_laid all_put _ (page p) HANDLES ∙ length_free

  guest_puts : (g : ℕ) → Puts (keeps (mailbox_at boxes (vm g))) (mailbox_row (vm g)) (box_row (mailbox_at boxes (vm g)) (mailbox_row (vm g)))
  guest_puts g = box_puts _ _

  box_due : is_mailbox n boxes (page p) ≡ true
      → record_at (box_rows n boxes (held_rows HANDLES transactions (free_rows m records))) (page p)
      ≡ due n boxes transactions (record_at records (page p)).owner (page p)
  unfolding box_rows is_mailbox keeper
  box_due e =
      let has : ℕ → Bool = λ g. keeps (mailbox_at boxes (vm g)) (page p) in
      let found = some_at n has e in
      let l : first n has < n = omega (arith, passes_first n has found.0 found.2, found.1) in
      let at = first_passes n has l in
      laid_one guest_puts _ (page p) n _ l at
      (λ j c q.
      let one = ((mailboxes_differ_link n boxes).holds usable.mailboxes_differ).one_keeper in
      ap (λ (g : ℕ). mailbox_row (vm g)) (one j _ (page p) c l q at))
      (omega (arith, below, length_held))
      ∙ sym (due_mailbox n boxes transactions _ (page p) e)

  no_box_due : is_mailbox n boxes (page p) ≡ false
      → record_at (box_rows n boxes (held_rows HANDLES transactions (free_rows m records))) (page p)
      ≡ due n boxes transactions (record_at records (page p)).owner (page p)
  unfolding box_rows is_mailbox
  no_box_due e =
      laid_none guest_puts _ (page p) n (λ g c. cannot_pass (λ q. not_both (at_some _ _ g c q) e)) ∙ held_due e

  pub laid_due :
      record_at (box_rows n boxes (held_rows HANDLES transactions (free_rows m records))) (page p)
      ≡ due n boxes transactions (record_at records (page p)).owner (page p)
  laid_due = either (is_mailbox n boxes (page p)) box_due no_box_due

-- Records compared with those laid out.

abbrev pub same : PageRecord × PageRecord → Bool
same p = same_record p.0 p.1

-- record p is the one laid out
abbrev pub as_laid : List PageRecord → List PageRecord → ℕ → Bool
as_laid records dues p = same_record (record_at records (page p)) (record_at dues (page p))

pub all_as_laid : (n m : ℕ) (boxes : List Mailbox) (transactions : List Transaction) (records dues : List PageRecord)
    → ((p : ℕ) → p < m → record_at dues (page p) ≡ due n boxes transactions (record_at records (page p)).owner (page p))
    → every m (as_laid records dues) ≡ records_due n m boxes transactions records
unfolding records_due
all_as_laid n m boxes transactions records dues at =
    every_same m _ _ (λ p b. ap (same_record (record_at records (page p))) (at p b))
