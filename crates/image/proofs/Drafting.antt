-- What every draft keeps, and the way through an image: what every draft keeps is known of a good verdict's machine.
-- Assumes nothing.
use Rattle.std.specs.Prelude.{Option, None, Some, is_some}
use Rattle.model.specs.declared.Message.{Message}
use Prim.Native.Nat.{ℕ, zero, suc, ◌≤◌, ◌<◌}
use Rattle.image.proofs.Cutting.{cut_whole}
use mathlib.Core.Path.{◌≡◌, refl, sym, ap, ◌∙◌}
use mathlib.Core.Bool.{Bool, true, false, cond, true≢false, false≢true}
use mathlib.Core.List.{List}
use mathlib.Core.Logic.{◌⊎◌, inl, inr}
use native.Mathlib.Decide.{ℕ_discrete}
use native.Mathlib.Omega.{arith}
use lib.ListN.{length, set, replicate, length-set, get_or-replicate}
use lib.Dec.{eqb}
use borrow.Author.Tests.{eq-eqb, ne_eqb, not-true}
use Rattle.isa.proofs.Tests.{not_both, and_left, and_right, or_either, or_left, or_right, or_false_left, or_false_right}
use Rattle.model.specs.declared.VmId.{VmId}
use Rattle.model.specs.declared.PageId.{PageId}
use Rattle.model.specs.declared.VmSet.{VmSet}
use Rattle.model.specs.declared.Registers.{Registers}
use Rattle.model.specs.declared.Mailbox.{Mailbox}
use Rattle.model.specs.declared.PageRecord.{PageRecord}
use Rattle.model.specs.declared.Transaction.{Transaction}
use Rattle.model.specs.declared.Mode.{Mode}
use Rattle.model.specs.declared.Mode.TheVariants.{Normal}
use Rattle.model.specs.declared.Machine.{Machine}
use Rattle.model.specs.Constants.{GUESTS, PAGES, HANDLES}
use Rattle.model.specs.State.{vm, page, primary, registers_at, mailbox_at, record_at}
use Rattle.model.specs.VmSet.{has, with}
use Rattle.model.specs.Row.{mailbox_row, free_row, owned_row}
use Rattle.model.specs.Due.{keeps}
use Rattle.model.specs.Deeds.{freed}
use Rattle.model.specs.Blank.{blank_registers, blank}
use Rattle.model.specs.Sound.{CountsInRange}
use Rattle.model.proofs.Tests.{agree_true, every_at}
use Rattle.model.proofs.Same.{eq_same_vm, same_vm_true, eq_same_page, same_page_true}
use Rattle.model.proofs.Members.{has_none, has_with}
use Rattle.model.proofs.State.{file_same, file_other, box_same, box_other, row_same, row_other}
use Rattle.model.proofs.Sound.{counts_in_range_link}
use Rattle.model.proofs.Links.{Link, ltb_link, eqb_link, same_record_link, fails_link, not_link, ◌also◌, ◌make◌}
use Rattle.image.specs.declared.Record.{Record}
use Rattle.image.specs.declared.Content.{Content}
use Rattle.image.specs.declared.Content.TheVariants.{Counts, Described, Owned, Words, Budget}
use Rattle.image.specs.declared.Draft.{Draft}
use Rattle.image.specs.declared.Image.{Image}
use Rattle.image.specs.Pieces.{image_kinds, end_of, cut}
use Rattle.image.specs.Contents.{content_of}
use Rattle.image.specs.Drafts.{begun, unused, describable, ownable, complete, fits, is_counts, may_stand, with_pc, with_counts, with_guest, with_owner, with_budget, taken}
use Rattle.image.specs.Judging.{Judged, Turn, stops, goes_on, broken, good, ended_with, at_end, heard, tried, turn, follow, judged_from, judged_of}

-- A way through an image: Along holds where a record is looked at, and stays so behind each record that may stand; so the
-- verdict has what Told says, if an end and a bad record have.
pub record Way (bytes : List ℕ) (Along : ℕ → Draft → Type 0) (Told : Judged → Type 0) : Type 0 where
  pub ends : (at : ℕ) (d : Draft) → Along at d → Told (at_end at d)
  pub breaks : (at : ℕ) (d : Draft) → Along at d → Told (broken at)
  pub goes :
      (at : ℕ) (d : Draft) (r : Record) (content : Content) → Along at d → cut image_kinds bytes at ≡ Some r
      → content_of bytes r ≡ Some content → may_stand at d content ≡ true → Along (end_of r) (taken d content)

module _ (bytes : List ℕ) (Along : ℕ → Draft → Type 0) (Told : Judged → Type 0) (way : Way bytes Along Told) where
  -- what has to hold after one look
  abbrev After : Turn → Type 0
  After t = elim t [ stops judged ↦ Told judged | goes_on at d ↦ Along at d ]

  after_content : (at : ℕ) (d : Draft) (r : Record) (content : Content) → Along at d → cut image_kinds bytes at ≡ Some r
      → content_of bytes r ≡ Some content → (stands : Bool) → may_stand at d content ≡ stands
      → After (cond stands (goes_on (end_of r) (taken d content)) (stops (broken at)))
  after_content at d r content along here says true e = way.goes at d r content along here says e
  after_content at d r content along here says false e = way.breaks at d along

  after_record : (at : ℕ) (d : Draft) (r : Record) (said : Option Content) → Along at d → cut image_kinds bytes at ≡ Some r
      → content_of bytes r ≡ said → After (heard at d (end_of r) said)
  unfolding heard
  after_record at d r None along here says = way.breaks at d along
  after_record at d r (Some content) along here says = after_content at d r content along here says _ refl

  after_piece : (at : ℕ) (d : Draft) (piece : Option Record) → Along at d → cut image_kinds bytes at ≡ piece
      → After (tried bytes at d piece)
  unfolding tried
  after_piece at d None along here = way.breaks at d along
  after_piece at d (Some r) along here = after_record at d r _ along here refl

  after_turn : (at : ℕ) (d : Draft) (last : Bool) → Along at d
      → After (cond last (stops (at_end at d)) (tried bytes at d (cut image_kinds bytes at)))
  after_turn at d true along = way.ends at d along
  after_turn at d false along = after_piece at d _ along refl

  after_follow : (t : Turn) (rest : ℕ → Draft → Judged) → After t
      → ((at : ℕ) (d : Draft) → Along at d → Told (rest at d)) → Told (follow t rest)
  unfolding follow
  after_follow (stops judged) rest told lower = told
  after_follow (goes_on at d) rest along lower = lower at d along

  pub judged_along : (more at : ℕ) (d : Draft) → Along at d → Told (judged_from more bytes at d)
  unfolding judged_from turn
  judged_along zero at d along = way.ends at d along
  judged_along (suc more) at d along =
      after_follow (turn bytes at d) (judged_from more bytes) (after_turn at d (eqb at (length bytes)) along) (judged_along more)

-- Parts of the machine after a change, and the sets of described guests.

-- whoever is in the set with g is g or was there
with_either : (k g : ℕ) (s : VmSet) → has (vm k) (with (vm g) s) ≡ true → (k ≡ g) ⊎ (has (vm k) s ≡ true)
with_either k g s e =
    elim (or_either _ _ (sym (has_with (vm k) (vm g) s) ∙ e)) [
      | inl q ↦ inl (ap (λ (v : VmId). v.0) (same_vm_true (vm k) (vm g) q))
      | inr q ↦ inr q
    ]

-- whoever is not in it is not g and was not there
with_neither : (k g : ℕ) (s : VmSet) → has (vm k) (with (vm g) s) ≡ false → (k ≡ g → ⊥) × (has (vm k) s ≡ false)
with_neither k g s e =
    let none = sym (has_with (vm k) (vm g) s) ∙ e in
    (λ q. not_both (eq_same_vm {g = vm k} {k = vm g} (ap vm q)) (or_false_left _ _ none), or_false_right _ _ none)

with_self : (g : ℕ) (s : VmSet) → has (vm g) (with (vm g) s) ≡ true
with_self g s = has_with (vm g) (vm g) s ∙ or_left _ (eq_same_vm refl)

with_more : (k g : ℕ) (s : VmSet) → has (vm k) s ≡ true → has (vm k) (with (vm g) s) ≡ true
with_more k g s e = has_with (vm k) (vm g) s ∙ or_right _ e

-- a spare page's row is no mailbox page's
pub spare_no_mailbox : (g : VmId) → free_row None ≡ mailbox_row g → ⊥
unfolding free_row mailbox_row
spare_no_mailbox g e = false≢true (ap (λ (r : PageRecord). r.exclusive) e)

-- What is known of a draft.

-- Guests: those described are below n; registers are zero and flags clear; one that is not described starts at 0 and has no
-- mailbox.
pub record Guests (n : ℕ) (described : VmSet) (files : List Registers) (boxes : List Mailbox) : Type 0 where
  pub eight_files : length files ≡ GUESTS
  pub eight_boxes : length boxes ≡ GUESTS
  pub described_below : (g : ℕ) → has (vm g) described ≡ true → g < n
  pub zero_registers : (g : ℕ) → g < GUESTS → (registers_at files (vm g)).r ≡ replicate 8 0
  pub clear_flag : (g : ℕ) → g < GUESTS → (registers_at files (vm g)).equal ≡ false
  pub no_start : (g : ℕ) → g < GUESTS → has (vm g) described ≡ false → (registers_at files (vm g)).pc ≡ 0
  pub no_box :
      (g : ℕ) → g < GUESTS → has (vm g) described ≡ false → mailbox_at boxes (vm g) ≡ record { tx = page 0; rx = page 0 }

-- what page p is used for: it is a mailbox page of a described guest, or its row is its owner's or a spare page's
pub data Use (n : ℕ) (described : VmSet) (boxes : List Mailbox) (p : ℕ) (row : PageRecord) : Type 0 where
  kept_by :
      (g : ℕ) → has (vm g) described ≡ true → keeps (mailbox_at boxes (vm g)) (page p) ≡ true → Use n described boxes p row
  owned_by : (g : VmId) → g.0 < n → row ≡ owned_row g → Use n described boxes p row
  spare : row ≡ free_row None → Use n described boxes p row

-- Pages: a described guest has two mailbox pages below m, with their row; every page below m has a use; the others are spare.
pub record Pages (n m : ℕ) (described : VmSet) (boxes : List Mailbox) (records : List PageRecord) : Type 0 where
  pub sixty_four : length records ≡ PAGES
  pub two_pages : (g : ℕ) → has (vm g) described ≡ true → (mailbox_at boxes (vm g)).tx ≡ (mailbox_at boxes (vm g)).rx → ⊥
  pub boxes_below :
      (g : ℕ) → has (vm g) described ≡ true → ((mailbox_at boxes (vm g)).tx.0 < m) × ((mailbox_at boxes (vm g)).rx.0 < m)
  pub box_row_lem :
      (g p : ℕ) → has (vm g) described ≡ true → keeps (mailbox_at boxes (vm g)) (page p) ≡ true
      → record_at records (page p) ≡ mailbox_row (vm g)
  pub used : (p : ℕ) → p < m → Use n described boxes p (record_at records (page p))
  pub spare_behind : (p : ℕ) → p < PAGES → m ≤ p → record_at records (page p) ≡ free_row None

-- The rest is as it was before the first record.
pub record Still (inboxes : List (Option Message)) (transactions : List Transaction) (current : VmId) (mode : Mode) : Type 0 where
  pub nothing_waits : inboxes ≡ replicate GUESTS None
  pub handles_free : transactions ≡ replicate HANDLES freed
  pub current_is_primary : current ≡ primary
  pub mode_is_normal : mode ≡ Normal

-- A draft behind the first record.
pub record Drawn (d : Draft) : Type 0 where
  pub counts : CountsInRange d.machine.n d.machine.m
  pub guests : Guests d.machine.n d.described d.machine.registers d.machine.mailboxes
  pub pages : Pages d.machine.n d.machine.m d.described d.machine.mailboxes d.machine.records
  pub still : Still d.machine.inboxes d.machine.transactions d.machine.current d.machine.mode
  pub all_described : is_some d.budget ≡ true → complete d.machine.n d.described ≡ true

-- What a record may say, as facts.

record Unused (m : ℕ) (records : List PageRecord) (p : ℕ) : Type 0 where
  below : p < m
  row : record_at records (page p) ≡ free_row None

unused_link : (m : ℕ) (records : List PageRecord) (p : ℕ) → Link (unused m records p) (Unused m records p)
unfolding unused
unused_link m records p = (λ c. c.below, ltb_link) also (λ c. c.row, same_record_link) make (λ c. search)

record Describable (d : Draft) (g tx rx : ℕ) : Type 0 where
  below : g < d.machine.n
  new : has (vm g) d.described ≡ false
  differ : tx ≡ rx → ⊥
  tx_unused : Unused d.machine.m d.machine.records tx
  rx_unused : Unused d.machine.m d.machine.records rx

describable_link : (d : Draft) (g tx rx : ℕ) → Link (describable d g tx rx) (Describable d g tx rx)
unfolding describable
describable_link d g tx rx =
    (λ c. c.below, ltb_link)
    also (λ c. c.new, fails_link)
    also (λ c. c.differ, not_link eqb_link)
    also (λ c. c.tx_unused, unused_link _ _ _)
    also (λ c. c.rx_unused, unused_link _ _ _)
    make (λ c. search)

record Ownable (d : Draft) (p g : ℕ) : Type 0 where
  page_unused : Unused d.machine.m d.machine.records p
  below : g < d.machine.n

ownable_link : (d : Draft) (p g : ℕ) → Link (ownable d p g) (Ownable d p g)
unfolding ownable
ownable_link d p g = (λ c. c.page_unused, unused_link _ _ _) also (λ c. c.below, ltb_link) make (λ c. search)

-- Kind 1: on the blank machine.

counts_drawn : (n m : ℕ) → CountsInRange n m → Drawn (with_counts begun n m)
unfolding with_counts begun blank blank_registers registers_at mailbox_at record_at
counts_drawn n m c =
    record {
      counts = c;
      guests = record {
        eight_files = refl;
        eight_boxes = refl;
        described_below = λ g e. absurd (not_both e (has_none (vm g)));
        zero_registers = λ g b. ap (λ (file : Registers). file.r) (get_or-replicate GUESTS g _ _ b);
        clear_flag = λ g b. ap (λ (file : Registers). file.equal) (get_or-replicate GUESTS g _ _ b);
        no_start = λ g b e. ap (λ (file : Registers). file.pc) (get_or-replicate GUESTS g _ _ b);
        no_box = λ g b e. get_or-replicate GUESTS g _ _ b;
      };
      pages = record {
        sixty_four = refl;
        two_pages = λ g e. absurd (not_both e (has_none (vm g)));
        boxes_below = λ g e. absurd (not_both e (has_none (vm g)));
        box_row_lem = λ g p e. absurd (not_both e (has_none (vm g)));
        used = λ p b. spare (get_or-replicate PAGES p _ _ (omega (arith, c.sixty_four_pages)));
        spare_behind = λ p b l. get_or-replicate PAGES p _ _ b;
      };
      still = record { nothing_waits = refl; handles_free = refl; current_is_primary = refl; mode_is_normal = refl };
      all_described = λ e. absurd (false≢true e);
    }

-- Kind 2.

guests_more : {n : ℕ} {described : VmSet} {files : List Registers} {boxes : List Mailbox}
    → Guests n described files boxes → n ≤ GUESTS → (g pc : ℕ) (box : Mailbox) → g < n
    → Guests n (with (vm g) described) (set files g (with_pc (registers_at files (vm g)) pc)) (set boxes g box)
guests_more {n} {described} {files} {boxes} c range g pc box below =
    record {
      eight_files = length-set files g _ ∙ c.eight_files;
      eight_boxes = length-set boxes g _ ∙ c.eight_boxes;
      described_below = λ k e. elim (with_either k g described e) [ inl q ↦ rw q below | inr old ↦ c.described_below k old ];
      zero_registers = λ k b. elim (ℕ_discrete k g) [
        | yes q ↦ rw (q, at_g) (c.zero_registers g (omega arith))
        | no q ↦ rw (beside k q) (c.zero_registers k b)
      ];
      clear_flag = λ k b. elim (ℕ_discrete k g) [
        | yes q ↦ rw (q, at_g) (c.clear_flag g (omega arith))
        | no q ↦ rw (beside k q) (c.clear_flag k b)
      ];
      no_start = λ k b e. let other = with_neither k g described e in rw (beside k other.0) (c.no_start k b other.1);
      no_box = λ k b e.
          let other = with_neither k g described e in
          box_other boxes (vm g) (vm k) box other.0 ∙ c.no_box k b other.1;
    }
  where
    at_g : registers_at (set files g (with_pc (registers_at files (vm g)) pc)) (vm g) ≡ with_pc (registers_at files (vm g)) pc
    at_g = file_same files (vm g) _ (omega (arith, c.eight_files))

    beside : (k : ℕ) → (k ≡ g → ⊥)
        → registers_at (set files g (with_pc (registers_at files (vm g)) pc)) (vm k) ≡ registers_at files (vm k)
    beside k q = file_other files (vm g) (vm k) _ q

abbrev pair : ℕ → ℕ → Mailbox
pair tx rx = record { tx = page tx; rx = page rx }

abbrev twice : List PageRecord → ℕ → ℕ → PageRecord → List PageRecord
twice records tx rx row = set (set records tx row) rx row

-- a page that a mailbox keeps is one of its two
keeps_either : (tx rx p : ℕ) → keeps (pair tx rx) (page p) ≡ true → (p ≡ tx) ⊎ (p ≡ rx)
unfolding keeps
keeps_either tx rx p e =
    elim (or_either _ _ e) [
      | inl q ↦ inl (sym (ap (λ (x : PageId). x.0) (same_page_true (page tx) (page p) q)))
      | inr q ↦ inr (sym (ap (λ (x : PageId). x.0) (same_page_true (page rx) (page p) q)))
    ]

either_keeps : (tx rx p : ℕ) → (p ≡ tx) ⊎ (p ≡ rx) → keeps (pair tx rx) (page p) ≡ true
unfolding keeps
either_keeps tx rx p e =
    elim e [
      | inl q ↦ or_left _ (eq_same_page {p = page tx} {q = page p} (ap page (sym q)))
      | inr q ↦ or_right _ (eq_same_page {p = page rx} {q = page p} (ap page (sym q)))
    ]

-- two pages of a list get a row
module _ (records : List PageRecord) (tx rx : ℕ) (row : PageRecord) where
  pair_length : length (twice records tx rx row) ≡ length records
  pair_length = length-set (set records tx row) rx row ∙ length-set records tx row

  pair_at : tx < length records → rx < length records → (p : ℕ) → (p ≡ tx) ⊎ (p ≡ rx)
      → record_at (twice records tx rx row) (page p) ≡ row
  pair_at tx_fits rx_fits p here =
      elim (ℕ_discrete p rx) [
        | yes q ↦ rw q (row_same (set records tx row) (page rx) row (omega (arith, length-set records tx row)))
        | no q ↦
            row_other (set records tx row) (page rx) (page p) row q
            ∙ elim here [ inl same ↦ rw same (row_same records (page tx) row tx_fits) | inr same ↦ absurd (q same) ]
      ]

  pair_beside : (p : ℕ) → (p ≡ tx → ⊥) → (p ≡ rx → ⊥) → record_at (twice records tx rx row) (page p) ≡ record_at records (page p)
  pair_beside p not-tx not-rx = row_other (set records tx row) (page rx) (page p) row not-rx ∙ row_other records (page tx) (page p) row not-tx

-- the use of a page whose row has not changed, once more guests are described
use_more : {n : ℕ} {described : VmSet} {boxes : List Mailbox} {p : ℕ} {row : PageRecord}
    → (g : ℕ) (box : Mailbox) → has (vm g) described ≡ false
    → Use n described boxes p row → Use n (with (vm g) described) (set boxes g box) p row
use_more {described} {boxes} g box new (kept_by k old keeping) =
    kept_by k (with_more k g described old) (rw (box_other boxes (vm g) (vm k) box (λ q. not_both old (rw q new))) keeping)
use_more g box new (owned_by k below same) = owned_by k below same
use_more g box new (spare same) = spare same

pages_more : {n m : ℕ} {described : VmSet} {boxes : List Mailbox} {records : List PageRecord}
    → Pages n m described boxes records → m ≤ PAGES
    → (g tx rx : ℕ) → g < length boxes → has (vm g) described ≡ false
    → (tx ≡ rx → ⊥) → Unused m records tx → Unused m records rx
    → Pages n m (with (vm g) described) (set boxes g (pair tx rx))
    (twice records tx rx (mailbox_row (vm g)))
pages_more {n} {m} {described} {boxes} {records} c range g tx rx fits new differ tx-free rx-free =
    record {
      sixty_four = pair_length records tx rx _ ∙ c.sixty_four;
      two_pages = λ k e. elim (with_either k g described e) [
        | inl q ↦ rw (q, at_g) (λ same. differ (ap (λ (x : PageId). x.0) same))
        | inr old ↦ rw (beside k old) (c.two_pages k old)
      ];
      boxes_below = λ k e. elim (with_either k g described e) [
        | inl q ↦ rw (q, at_g) (tx-free.below, rx-free.below)
        | inr old ↦ rw (beside k old) (c.boxes_below k old)
      ];
      box_row_lem = λ k p e keeping. elim (with_either k g described e) [
        | inl q ↦ rw q (pair_at records tx rx _ tx_fits rx_fits p (keeps_either tx rx p (rw (q, at_g) at keeping)))
        | inr old ↦ old_row k p old (rw (beside k old) at keeping)
      ];
      used = λ p b. elim (ℕ_discrete p tx) [
        | yes q ↦ now_kept p (inl q)
        | no not-tx ↦ elim (ℕ_discrete p rx) [
          | yes q ↦ now_kept p (inr q)
          | no not-rx ↦ rw (pair_beside records tx rx _ p not-tx not-rx) (use_more g _ new (c.used p b))
        ]
      ];
      spare_behind = λ p b l.
          pair_beside records tx rx _ p (λ q. omega (arith, tx-free.below)) (λ q. omega (arith, rx-free.below))
          ∙ c.spare_behind p b l;
    }
  where
    tx_fits : tx < length records
    tx_fits = omega (arith, c.sixty_four, tx-free.below)

    rx_fits : rx < length records
    rx_fits = omega (arith, c.sixty_four, rx-free.below)

    at_g : mailbox_at (set boxes g (pair tx rx)) (vm g) ≡ pair tx rx
    at_g = box_same boxes (vm g) _ fits

    beside : (k : ℕ) → has (vm k) described ≡ true
        → mailbox_at (set boxes g (pair tx rx)) (vm k) ≡ mailbox_at boxes (vm k)
    beside k old = box_other boxes (vm g) (vm k) _ (λ q. not_both old (rw q new))

    -- a page that had a mailbox's row was not unused
    not_unused : (k p q : ℕ) → Unused m records q → record_at records (page p) ≡ mailbox_row (vm k) → p ≡ q → ⊥
    not_unused k p q free row same = spare_no_mailbox (vm k) (sym free.row ∙ (rw same at row))

    old_row : (k p : ℕ) → has (vm k) described ≡ true → keeps (mailbox_at boxes (vm k)) (page p) ≡ true
        → record_at (twice records tx rx (mailbox_row (vm g))) (page p) ≡ mailbox_row (vm k)
    old_row k p old keeping =
        let row = c.box_row_lem k p old keeping in
        pair_beside records tx rx _ p (not_unused k p tx tx-free row) (not_unused k p rx rx-free row) ∙ row

    now_kept : (p : ℕ) → (p ≡ tx) ⊎ (p ≡ rx)
        → Use n (with (vm g) described) (set boxes g (pair tx rx)) p
        (record_at (twice records tx rx (mailbox_row (vm g))) (page p))
    now_kept p here = kept_by g (with_self g described) (rw at_g (either_keeps tx rx p here))

-- Kind 3.

pages_owned : {n m : ℕ} {described : VmSet} {boxes : List Mailbox} {records : List PageRecord}
    → Pages n m described boxes records → m ≤ PAGES → (p g : ℕ) → Unused m records p → g < n
    → Pages n m described boxes (set records p (owned_row (vm g)))
pages_owned {n} {m} {described} {boxes} {records} c range p g free below =
    record {
      sixty_four = length-set records p _ ∙ c.sixty_four;
      two_pages = c.two_pages;
      boxes_below = c.boxes_below;
      box_row_lem = λ k q e keeping.
          let row = c.box_row_lem k q e keeping in
          row_other records (page p) (page q) _ (λ same. spare_no_mailbox (vm k) (sym free.row ∙ (rw same at row))) ∙ row;
      used = λ q b. elim (ℕ_discrete q p) [
        | yes same ↦ owned_by (vm g) below (rw same (row_same records (page p) _ (omega (arith, c.sixty_four, free.below))))
        | no other ↦ rw (row_other records (page p) (page q) (owned_row (vm g)) other) (c.used q b)
      ];
      spare_behind = λ q b l. row_other records (page p) (page q) _ (λ same. omega (arith, free.below)) ∙ c.spare_behind q b l;
    }

-- Every kind keeps what is known.

-- a record that is not of kind 1
pub drawn_more : (d : Draft) (content : Content) → Drawn d → is_some d.budget ≡ false → is_counts content ≡ false → fits d content ≡ true
    → Drawn (taken d content)
unfolding taken fits is_counts with_guest with_owner with_budget
drawn_more d (Counts n m) c going other e = absurd (true≢false other)
drawn_more d (Described g tx rx pc) c going other e =
    let ask = (describable_link d g tx rx).holds e in
    record {
      counts = c.counts;
      guests = guests_more c.guests c.counts.eight_guests g pc _ ask.below;
      pages =
          pages_more
          c.pages
          c.counts.sixty_four_pages
          g tx rx
          (omega (arith, c.guests.eight_boxes, c.counts.eight_guests, ask.below))
          ask.new
          ask.differ
          ask.tx_unused
          ask.rx_unused;
      still = c.still;
      all_described = λ ended. absurd (not_both ended going);
    }
drawn_more d (Owned p g) c going other e =
    let ask = (ownable_link d p g).holds e in
    record {
      counts = c.counts;
      guests = c.guests;
      pages = pages_owned c.pages c.counts.sixty_four_pages p g ask.page_unused ask.below;
      still = c.still;
      all_described = c.all_described;
    }
drawn_more d (Words x k) c going other e = c
drawn_more d (Budget steps) c going other e =
    record { counts = c.counts; guests = c.guests; pages = c.pages; still = c.still; all_described = λ ended. e }

-- the first record
pub drawn_first : (content : Content) → is_counts content ≡ true → fits begun content ≡ true → Drawn (taken begun content)
unfolding taken fits is_counts
drawn_first (Counts n m) first e = counts_drawn n m ((counts_in_range_link n m).holds e)
drawn_first (Described g tx rx pc) first e = absurd (false≢true first)
drawn_first (Owned p g) first e = absurd (false≢true first)
drawn_first (Words x k) first e = absurd (false≢true first)
drawn_first (Budget steps) first e = absurd (false≢true first)

-- So a draft is blank at offset 0, and drawn behind it.
pub data Drafted (at : ℕ) (d : Draft) : Type 0 where
  before : at ≡ 0 → d ≡ begun → Drafted at d
  behind : (at ≡ 0 → ⊥) → Drawn d → Drafted at d

-- what a record that may stand is known by
record Standing (at : ℕ) (d : Draft) (content : Content) : Type 0 where
  going : is_some d.budget ≡ false
  first_only : eqb at 0 ≡ is_counts content
  fitting : fits d content ≡ true

standing : (at : ℕ) (d : Draft) (content : Content) → may_stand at d content ≡ true → Standing at d content
unfolding may_stand
standing at d content e =
    record {
      going = not-true _ (and_left _ _ e);
      first_only = agree_true _ _ (and_left _ _ (and_right _ _ e));
      fitting = and_right _ _ (and_right _ _ e);
    }

drafted_next : (at next : ℕ) (d : Draft) (content : Content) → Drafted at d → (next ≡ 0 → ⊥) → may_stand at d content ≡ true
    → Drafted next (taken d content)
drafted_next at next d content (before start same) further e =
    let ask = standing at d content e in
    behind further (rw same (drawn_first content (sym ask.first_only ∙ eq-eqb _ _ start) (rw same at ask.fitting)))
drafted_next at next d content (behind later c) further e =
    let ask = standing at d content e in
    behind further (drawn_more d content c ask.going (sym ask.first_only ∙ ne_eqb _ _ later) ask.fitting)

-- a record ends behind where it starts
ends_further : (bytes : List ℕ) (at : ℕ) (r : Record) → cut image_kinds bytes at ≡ Some r → end_of r ≡ 0 → ⊥
unfolding end_of
ends_further bytes at r here e = omega (arith, cut_whole image_kinds bytes at here)

-- The machine of a good image: what is known of its draft, and that every guest is described.
pub record Built (m : Machine) : Type 0 where
  pub described : VmSet
  pub all_described : (g : ℕ) → g < m.n → has (vm g) described ≡ true
  pub counts : CountsInRange m.n m.m
  pub guests : Guests m.n described m.registers m.mailboxes
  pub pages : Pages m.n m.m described m.mailboxes m.records
  pub still : Still m.inboxes m.transactions m.current m.mode

built : (d : Draft) → Drawn d → is_some d.budget ≡ true → Built d.machine
unfolding complete
built d c ended =
    record {
      described = d.described;
      all_described = every_at _ _ (c.all_described ended);
      counts = c.counts;
      guests = c.guests;
      pages = c.pages;
      still = c.still;
    }

-- a good verdict has such a machine
abbrev ToldBuilt : Judged → Type 0
ToldBuilt judged = (machine : Machine) (budget : ℕ) → judged ≡ good machine budget → Built machine

not_built : (at : ℕ) → ToldBuilt (broken at)
not_built at machine budget e = cc

-- the blank draft has no budget
drafted_built : (at : ℕ) (d : Draft) → Drafted at d → is_some d.budget ≡ true → Built d.machine
unfolding begun
drafted_built at d (before start same) ended = absurd (not_both ended (ap (λ (x : Draft). is_some x.budget) same))
drafted_built at d (behind later c) ended = built d c ended

end_built : (at : ℕ) (d : Draft) → Drafted at d → (budget : Option ℕ) → d.budget ≡ budget
    → ToldBuilt (ended_with at d.machine budget)
unfolding ended_with
end_built at d c (Some budget) e machine told is =
    let image : Image = record { machine = d.machine; budget = budget } in
    let other : Image = record { machine = machine; budget = told } in
    let same : image ≡ other = cc in
    rw (← ap (λ (i : Image). i.machine) same) (drafted_built at d c (ap is_some e))
end_built at d c None e machine told is = not_built at machine told is

pub judged_built : (bytes : List ℕ) (machine : Machine) (budget : ℕ) → judged_of bytes ≡ good machine budget → Built machine
unfolding judged_of at_end
judged_built bytes =
    judged_along
    bytes
    Drafted
    ToldBuilt
    (record {
      ends = λ at d c. end_built at d c _ refl;
      breaks = λ at d c. not_built at;
      goes = λ at d r content c here says stands. drafted_next at (end_of r) d content c (ends_further bytes at r here) stands;
    })
    (length bytes) 0 begun (before refl refl)
