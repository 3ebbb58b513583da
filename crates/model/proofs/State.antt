-- What the parts of the machine hold after a change: at the place that was changed, and at another.
use Rattle.std.specs.Prelude.{Option}
use Rattle.model.specs.declared.Message.{Message}
use Prim.Native.Nat.{ℕ, ◌<◌}
use mathlib.Core.Path.{◌≡◌}
use mathlib.Core.List.{List}
use native.Mathlib.Omega.{arith}
use lib.ListN.{length, set, length-set}
use lib.Seq.{get_or-set_same, get_or-set_other}
use Rattle.model.specs.declared.VmId.{VmId}
use Rattle.model.specs.declared.PageId.{PageId}
use Rattle.model.specs.declared.Handle.{Handle}
use Rattle.model.specs.declared.Registers.{Registers}
use Rattle.model.specs.declared.Mailbox.{Mailbox}
use Rattle.model.specs.declared.PageRecord.{PageRecord}
use Rattle.model.specs.declared.Transaction.{Transaction}
use Rattle.model.specs.declared.Machine.{Machine}
use Rattle.model.specs.Constants.{GUESTS}
use Rattle.model.specs.State.{registers_at, register, with_register, written, mailbox_at, inbox_at, with_inbox, record_at, transaction_at}
use Rattle.model.specs.Shaped.{Shaped}

-- Registers.

pub register_same : (file : Registers) (i v : ℕ) → i < length file.r → register (with_register file i v) i ≡ v
unfolding register
register_same file i v h = get_or-set_same file.r i v 0 h

pub register_other : (file : Registers) (i j v : ℕ) → (j ≡ i → ⊥) → register (with_register file i v) j ≡ register file j
unfolding register
register_other file i j v h = get_or-set_other file.r i j v 0 h

pub file_same : (files : List Registers) (g : VmId) (file : Registers) → g.0 < length files → registers_at (set files g.0 file) g ≡ file
unfolding registers_at
file_same files g file h = get_or-set_same files g.0 file _ h

pub file_other : (files : List Registers) (g k : VmId) (file : Registers) → (k.0 ≡ g.0 → ⊥) → registers_at (set files g.0 file) k ≡ registers_at files k
unfolding registers_at
file_other files g k file h = get_or-set_other files g.0 k.0 file _ h

pub length_written : (files : List Registers) (g : VmId) (i v : ℕ) → length (written files g i v) ≡ length files
unfolding written
length_written files g i v = length-set files g.0 _

pub written_same : (files : List Registers) (g : VmId) (i v : ℕ) → g.0 < length files
    → registers_at (written files g i v) g ≡ with_register (registers_at files g) i v
unfolding written
written_same files g i v h = file_same files g _ h

pub written_other : (files : List Registers) (g k : VmId) (i v : ℕ) → (k.0 ≡ g.0 → ⊥)
    → registers_at (written files g i v) k ≡ registers_at files k
unfolding written
written_other files g k i v h = file_other files g k _ h

-- Guest g has a register file, of eight registers.

pub record Sized (files : List Registers) (g : VmId) : Type 0 where
  pub is_file : g.0 < length files
  pub eight : length (registers_at files g).r ≡ 8

pub shaped_sized : (m : Machine) (g : VmId) → Shaped m → g.0 < GUESTS → Sized m.registers g
shaped_sized m g shaped b =
    record { is_file = omega (arith, shaped.eight_files); eight = shaped.eight_registers g.0 b }

pub written_sized : {files : List Registers} {g : VmId} (i v : ℕ) → Sized files g → Sized (written files g i v) g
written_sized {files} {g} i v c =
    record {
      is_file = omega (arith, length_written files g i v, c.is_file);
      eight = rw (written_same files g i v c.is_file, length-set (registers_at files g).r i v) c.eight;
    }

pub written_at : {files : List Registers} {g : VmId} (i v : ℕ) → Sized files g → i < 8
    → register (registers_at (written files g i v) g) i ≡ v
written_at {files} {g} i v c b =
    rw (written_same files g i v c.is_file) (register_same (registers_at files g) i v (omega (arith, c.eight)))

pub written_beside : {files : List Registers} {g : VmId} (i j v : ℕ) → Sized files g → (j ≡ i → ⊥)
    → register (registers_at (written files g i v) g) j ≡ register (registers_at files g) j
written_beside {files} {g} i j v c b =
    rw (written_same files g i v c.is_file) (register_other (registers_at files g) i j v b)

-- Inboxes.

pub inbox_same : (slots : List (Option Message)) (g : VmId) (inbox : Option Message) → g.0 < length slots → inbox_at (with_inbox slots g inbox) g ≡ inbox
unfolding inbox_at
inbox_same slots g inbox h = get_or-set_same slots g.0 _ _ h

pub inbox_other : (slots : List (Option Message)) (g k : VmId) (inbox : Option Message) → (k.0 ≡ g.0 → ⊥) → inbox_at (with_inbox slots g inbox) k ≡ inbox_at slots k
unfolding inbox_at
inbox_other slots g k inbox h = get_or-set_other slots g.0 k.0 _ _ h

-- Transactions.

pub transaction_same : (transactions : List Transaction) (h : Handle) (t : Transaction) → h.0 < length transactions
    → transaction_at (set transactions h.0 t) h ≡ t
unfolding transaction_at
transaction_same transactions h t l = get_or-set_same transactions h.0 t _ l

pub transaction_other : (transactions : List Transaction) (h k : Handle) (t : Transaction) → (k.0 ≡ h.0 → ⊥)
    → transaction_at (set transactions h.0 t) k ≡ transaction_at transactions k
unfolding transaction_at
transaction_other transactions h k t l = get_or-set_other transactions h.0 k.0 t _ l

-- Mailboxes and page records.

pub box_same : (boxes : List Mailbox) (g : VmId) (box : Mailbox) → g.0 < length boxes → mailbox_at (set boxes g.0 box) g ≡ box
unfolding mailbox_at
box_same boxes g box h = get_or-set_same boxes g.0 box _ h

pub box_other : (boxes : List Mailbox) (g k : VmId) (box : Mailbox) → (k.0 ≡ g.0 → ⊥) → mailbox_at (set boxes g.0 box) k ≡ mailbox_at boxes k
unfolding mailbox_at
box_other boxes g k box h = get_or-set_other boxes g.0 k.0 box _ h

pub row_same : (rows : List PageRecord) (p : PageId) (row : PageRecord) → p.0 < length rows → record_at (set rows p.0 row) p ≡ row
unfolding record_at
row_same rows p row h = get_or-set_same rows p.0 row _ h

pub row_other : (rows : List PageRecord) (p q : PageId) (row : PageRecord) → (q.0 ≡ p.0 → ⊥) → record_at (set rows p.0 row) q ≡ record_at rows q
unfolding record_at
row_other rows p q row h = get_or-set_other rows p.0 q.0 row _ h
