-- What a record may say after those before it, and what it adds to the machine so far.
use Rattle.std.specs.Prelude.{None, Some, ℕ, ◌+◌, ◌*◌, ◌≤◌, Bool, true, false, not, List, is_none, set, eqb, ltb, leb}
use Rattle.isa.specs.Tests.{◌and◌}
use Rattle.model.specs.declared.VmId.{VmId}
use Rattle.model.specs.declared.PageId.{PageId}
use Rattle.model.specs.declared.VmSet.{VmSet}
use Rattle.model.specs.declared.Registers.{Registers}
use Rattle.model.specs.declared.Mailbox.{Mailbox}
use Rattle.model.specs.declared.PageRecord.{PageRecord}
use Rattle.model.specs.declared.Mode.TheVariants.{Normal}
use Rattle.model.specs.declared.Machine.{Machine}
use Rattle.model.specs.Tests.{agree, every}
use Rattle.model.specs.Constants.{GUESTS, PAGES, PAGE}
use Rattle.model.specs.State.{vm, page, registers_at, record_at, with_mode}
use Rattle.model.specs.VmSet.{has, none, with}
use Rattle.model.specs.Row.{mailbox_row, free_row, owned_row, same_record}
use Rattle.model.specs.Sound.{counts_in_range}
use Rattle.model.specs.Blank.{blank}
use Rattle.image.specs.declared.Content.{Content}
use Rattle.image.specs.declared.Content.TheVariants.{Counts, Described, Owned, Words, Budget}
use Rattle.image.specs.declared.Draft.{Draft}

-- before the first record: all is blank, but that the mode is to be normal
unfoldable pub begun : Draft
begun = record { machine = with_mode blank Normal; described = none; budget = None }

-- no more guests and pages than there is room for
abbrev pub Ranged : Draft → Type 0
Ranged d = (d.machine.n ≤ GUESTS) × (d.machine.m ≤ PAGES)

-- What a record may say.

-- a page below m that has no use so far: it has no owner and is no mailbox page, so its record is a spare page's
unfoldable pub unused : ℕ → List PageRecord → ℕ → Bool
unused m records p = ltb p m and same_record (record_at records (page p)) (free_row None)

-- kind 2: a guest that is not described yet, and two pages for its mailboxes
unfoldable pub describable : Draft → ℕ → ℕ → ℕ → Bool
describable d g tx rx =
    ltb g d.machine.n
    and not (has (vm g) d.described)
    and not (eqb tx rx)
    and unused d.machine.m d.machine.records tx
    and unused d.machine.m d.machine.records rx

-- kind 3: a page, and a guest to own it
unfoldable pub ownable : Draft → ℕ → ℕ → Bool
ownable d p g = unused d.machine.m d.machine.records p and ltb g d.machine.n

-- kind 4: k words from address x on lie inside memory
unfoldable pub inside : ℕ → ℕ → ℕ → Bool
inside m x k = leb (x + k) (PAGE * m)

-- kind 5: every guest is described
unfoldable pub complete : ℕ → VmSet → Bool
complete n described = every n (λ g. has (vm g) described)

unfoldable pub fits : Draft → Content → Bool
fits d (Counts n m) = counts_in_range n m
fits d (Described g tx rx pc) = describable d g tx rx
fits d (Owned p g) = ownable d p g
fits d (Words x k) = inside d.machine.m x k
fits d (Budget steps) = complete d.machine.n d.described

unfoldable pub is_counts : Content → Bool
is_counts (Counts n m) = true
is_counts (Described g tx rx pc) = false
is_counts (Owned p g) = false
is_counts (Words x k) = false
is_counts (Budget steps) = false

-- kind 1 stands at offset 0, and nothing else does; nothing stands behind kind 5
unfoldable pub may_stand : ℕ → Draft → Content → Bool
may_stand at d content = is_none d.budget and agree (eqb at 0) (is_counts content) and fits d content

-- What it adds.

abbrev pub drafted : Draft → Machine → VmSet → Draft
drafted d machine described = record { machine = machine; described = described; budget = d.budget }

-- a machine with counts, registers, mailboxes and records replaced
abbrev pub made : Machine → ℕ → ℕ → List Registers → List Mailbox → List PageRecord → Machine
made m guests pages registers mailboxes records =
    record {
      n = guests;
      m = pages;
      registers = registers;
      mailboxes = mailboxes;
      inboxes = m.inboxes;
      records = records;
      transactions = m.transactions;
      current = m.current;
      mode = m.mode;
    }

abbrev pub with_pc : Registers → ℕ → Registers
with_pc file pc = record { r = file.r; pc = pc; equal = file.equal }

unfoldable pub with_counts : Draft → ℕ → ℕ → Draft
with_counts d n m =
    drafted d (made d.machine n m d.machine.registers d.machine.mailboxes d.machine.records) d.described

unfoldable pub with_guest : Draft → VmId → PageId → PageId → ℕ → Draft
with_guest d g tx rx pc =
    drafted
    d
    (made
    d.machine
    d.machine.n
    d.machine.m
    (set d.machine.registers g.0 (with_pc (registers_at d.machine.registers g) pc))
    (set d.machine.mailboxes g.0 (record { tx = tx; rx = rx }))
    (set (set d.machine.records tx.0 (mailbox_row g)) rx.0 (mailbox_row g)))
    (with g d.described)

unfoldable pub with_owner : Draft → PageId → VmId → Draft
with_owner d p g =
    drafted
    d
    (made
    d.machine
    d.machine.n
    d.machine.m
    d.machine.registers
    d.machine.mailboxes
    (set d.machine.records p.0 (owned_row g)))
    d.described

unfoldable pub with_budget : Draft → ℕ → Draft
with_budget d steps = record { machine = d.machine; described = d.described; budget = Some steps }

-- words are for the memory, and add nothing here
unfoldable pub taken : Draft → Content → Draft
taken d (Counts n m) = with_counts d n m
taken d (Described g tx rx pc) = with_guest d (vm g) (page tx) (page rx) pc
taken d (Owned p g) = with_owner d (page p) (vm g)
taken d (Words x k) = d
taken d (Budget steps) = with_budget d steps
