-- A state: the machine and its memory. Reading and replacing the machine's parts.
use Rattle.std.specs.Prelude.{ℕ, ◌+◌, ◌%◌, Bool, true, false, List, [], get_or, set, eqb, Option, None, Some}
use Rattle.model.specs.declared.Message.{Message}
use Rattle.model.specs.declared.Deal.{Deal}
use Rattle.model.specs.declared.VmId.{VmId}
use Rattle.model.specs.declared.PageId.{PageId}
use Rattle.model.specs.declared.Handle.{Handle}
use Rattle.model.specs.declared.Registers.{Registers}
use Rattle.model.specs.declared.Mailbox.{Mailbox}
use Rattle.model.specs.declared.PageRecord.{PageRecord}
use Rattle.model.specs.declared.Transaction.{Transaction}
use Rattle.model.specs.declared.Mode.{Mode}
use Rattle.model.specs.declared.Mode.TheVariants.{Normal, Fault, Halted}
use Rattle.model.specs.declared.Machine.{Machine}
use Rattle.model.specs.Constants.{WORD}

pub record State : Type 0 where
  pub machine : Machine
  pub memory : List ℕ

abbrev pub state : Machine → List ℕ → State
state machine memory = record { machine = machine; memory = memory }

-- The three kinds of number.

abbrev pub vm : ℕ → VmId
vm g = record { 0 = g }

abbrev pub page : ℕ → PageId
page p = record { 0 = p }

abbrev pub handle : ℕ → Handle
handle h = record { 0 = h }

unfoldable pub same_vm : VmId → VmId → Bool
same_vm g k = eqb g.0 k.0

unfoldable pub same_page : PageId → PageId → Bool
same_page p q = eqb p.0 q.0

-- The primary is guest 0.
abbrev pub primary : VmId
primary = vm 0

unfoldable pub is_primary : VmId → Bool
is_primary g = same_vm g primary

-- Registers.

unfoldable pub registers_at : List Registers → VmId → Registers
registers_at files g = get_or files g.0 (record { r = []; pc = 0; equal = false })

unfoldable pub register : Registers → ℕ → ℕ
register file i = get_or file.r i 0

abbrev pub with_register : Registers → ℕ → ℕ → Registers
with_register file i v = record { r = set file.r i v; pc = file.pc; equal = file.equal }

-- guest g's register i becomes v
unfoldable pub written : List Registers → VmId → ℕ → ℕ → List Registers
written files g i v = set files g.0 (with_register (registers_at files g) i v)

-- Mailboxes and inboxes.

unfoldable pub mailbox_at : List Mailbox → VmId → Mailbox
mailbox_at boxes g = get_or boxes g.0 (record { tx = page 0; rx = page 0 })

abbrev pub message : ℕ → VmId → Message
message length sender = record { length = length; sender = sender }

unfoldable pub inbox_at : List (Option Message) → VmId → Option Message
inbox_at slots g = get_or slots g.0 None

abbrev pub with_inbox : List (Option Message) → VmId → Option Message → List (Option Message)
with_inbox slots g inbox = set slots g.0 inbox

unfoldable pub is_empty : Option Message → Bool
is_empty None = true
is_empty (Some message) = false

unfoldable pub length_of : Option Message → ℕ
length_of None = 0
length_of (Some message) = message.length

unfoldable pub sender_of : Option Message → VmId
sender_of None = primary
sender_of (Some message) = message.sender

-- Page records and transactions.

unfoldable pub record_at : List PageRecord → PageId → PageRecord
record_at records p = get_or records p.0 (record { owner = None; access = record { 0 = 0 }; exclusive = false })

unfoldable pub transaction_at : List Transaction → Handle → Transaction
transaction_at transactions h = get_or transactions h.0 (record { deal = None; pages = [] })

unfoldable pub page_at : Transaction → ℕ → PageId
page_at t i = get_or t.pages i (page 0)

unfoldable pub count_in : Option Deal → ℕ
count_in None = 0
count_in (Some d) = d.count

-- how many pages a transaction has: a free one has none
unfoldable pub count_of : Transaction → ℕ
count_of t = count_in t.deal

-- The mode.

unfoldable pub is_normal : Mode → Bool
is_normal Normal = true
is_normal Fault = false
is_normal Halted = false

-- The machine with parts replaced. Counts and mailboxes are never among them.

abbrev pub changed :
    Machine → List Registers → List (Option Message) → List PageRecord → List Transaction → VmId → Mode → Machine
changed m registers inboxes records transactions current mode =
    record {
      n = m.n;
      m = m.m;
      registers = registers;
      mailboxes = m.mailboxes;
      inboxes = inboxes;
      records = records;
      transactions = transactions;
      current = current;
      mode = mode;
    }

abbrev pub with_registers : Machine → List Registers → Machine
with_registers m registers =
    changed m registers m.inboxes m.records m.transactions m.current m.mode

abbrev pub with_inboxes : Machine → List (Option Message) → Machine
with_inboxes m inboxes =
    changed m m.registers inboxes m.records m.transactions m.current m.mode

abbrev pub with_pages : Machine → List PageRecord → List Transaction → Machine
with_pages m records transactions =
    changed m m.registers m.inboxes records transactions m.current m.mode

abbrev pub with_current : Machine → VmId → Machine
with_current m current =
    changed m m.registers m.inboxes m.records m.transactions current m.mode

abbrev pub with_mode : Machine → Mode → Machine
with_mode m mode =
    changed m m.registers m.inboxes m.records m.transactions m.current mode

-- What the current guest has.

unfoldable pub own_registers : Machine → Registers
own_registers m = registers_at m.registers m.current

unfoldable pub own_mailbox : Machine → Mailbox
own_mailbox m = mailbox_at m.mailboxes m.current

unfoldable pub own_inbox : Machine → Option Message
own_inbox m = inbox_at m.inboxes m.current

-- R0 chooses the call, R1 and R2 are its arguments
unfoldable pub argument : Machine → ℕ → ℕ
argument m i = register (own_registers m) i

-- the sum of two words
unfoldable pub plus : ℕ → ℕ → ℕ
plus a b = (a + b) % WORD
