-- The calls Donate, Lend and Share: one definition, over the kind.
use Rattle.std.specs.Prelude.{ℕ, ◌+◌, ◌-◌, ◌/◌, ◌%◌, Bool, true, false, List, replicate, ltb, leb, eqb, Option, None, Some}
use Rattle.isa.specs.Tests.{◌and◌}
use Rattle.model.specs.declared.VmId.{VmId}
use Rattle.model.specs.declared.PageId.{PageId}
use Rattle.model.specs.declared.Handle.{Handle}
use Rattle.model.specs.declared.Kind.{Kind}
use Rattle.model.specs.declared.PageRecord.{PageRecord}
use Rattle.model.specs.declared.Deal.{Deal}
use Rattle.model.specs.declared.Transaction.{Transaction}
use Rattle.model.specs.declared.Machine.{Machine}
use Rattle.model.specs.Constants.{PAGE, HANDLES, PLACES, INVALID, DENIED, NO_MEMORY}
use Rattle.model.specs.Tests.{every, first, ascending, set_each}
use Rattle.model.specs.State.{State, state, vm, page, handle, record_at, argument, written, with_registers, transaction_at}
use Rattle.model.specs.Row.{kind_number, owned_row, row, same_record}
use Rattle.model.specs.Memory.{tx_word}
use Rattle.model.specs.Rights.{page_of}
use Rattle.model.specs.Deeds.{settled}
use Rattle.model.specs.Reply.{Verdict, passes, need, answer, succeeded, is_other}

-- The descriptor in the TX page: its length, then kind and receiver, then the bases of the pages.

unfoldable pub sent_kind : State → ℕ
sent_kind s = tx_word s 1 % 65536

unfoldable pub sent_to : State → ℕ
sent_to s = tx_word s 1 / 65536

unfoldable pub sent_base : State → ℕ → ℕ
sent_base s i = tx_word s (2 + i)

unfoldable pub sent_page : State → ℕ → PageId
sent_page s i = page_of (sent_base s i)

-- the length in words, as the caller names it, and how many pages that leaves room for
unfoldable pub sent_length : State → ℕ
sent_length s = argument s.machine 1

unfoldable pub sent_count : State → ℕ
sent_count s = sent_length s - 2

-- Handles.

unfoldable pub is_free : Option Deal → Bool
is_free None = true
is_free (Some d) = false

unfoldable pub lowest_free : List Transaction → Handle
lowest_free transactions = handle (first HANDLES (λ h. is_free (transaction_at transactions (handle h)).deal))

-- this guest gets a handle
unfoldable pub granted : Machine → VmId → Bool
granted m g = ltb (lowest_free m.transactions).0 HANDLES

-- The tests.

-- an address that is the base of a page
unfoldable pub is_base : ℕ → ℕ → Bool
is_base m x = eqb (x % PAGE) 0 and ltb (page_of x).0 m

-- a page that the caller owns, with access for itself alone, and exclusive
unfoldable pub may_be_sent : Machine → PageId → Bool
may_be_sent m p = same_record (record_at m.records p) (owned_row m.current)

unfoldable pub sending_verdict : Kind → State → Verdict
sending_verdict kind s =
    need (leb 3 (sent_length s) and leb (sent_length s) 10) INVALID
    (need (eqb (tx_word s 0) (sent_length s)) INVALID
    (need (eqb (sent_kind s) (kind_number kind)) INVALID
    (need (is_other s.machine (sent_to s)) INVALID
    (need (every (sent_count s) (λ i. is_base s.machine.m (sent_base s i))) INVALID
    (need (ascending (sent_count s) (sent_base s)) INVALID
    (need (every (sent_count s) (λ i. may_be_sent s.machine (sent_page s i))) DENIED
    (need (granted s.machine s.machine.current) NO_MEMORY passes)))))))

-- The effect.

-- a deal that is not retrieved yet
abbrev pub new_deal : Kind → VmId → VmId → ℕ → Deal
new_deal kind sender receiver count =
    record { sender = sender; receiver = receiver; kind = kind; retrieved = false; count = count }

unfoldable pub sent_deal : Kind → State → Deal
sent_deal kind s = new_deal kind s.machine.current (vm (sent_to s)) (sent_count s)

unfoldable pub sent_transaction : Kind → State → Transaction
sent_transaction kind s =
    record { deal = Some (sent_deal kind s); pages = set_each (sent_count s) (λ i. i) (sent_page s) (replicate PLACES (page 0)) }

-- the lowest free handle gets the transaction, and its pages their row
abbrev pub sent_under : Machine → Transaction → PageRecord → Machine
sent_under m t due = settled m (lowest_free m.transactions) t t due

unfoldable pub sent : Kind → State → Machine
sent kind s = sent_under s.machine (sent_transaction kind s) (row (sent_deal kind s))

-- the caller gets the handle
unfoldable pub with_handle : Machine → Handle → Machine
with_handle m h = with_registers m (written m.registers m.current 2 h.0)

unfoldable pub sending_effect : Kind → State → State
sending_effect kind s =
    answer (sending_verdict kind s) s
    (state (with_handle (succeeded (sent kind s)) (lowest_free s.machine.transactions)) s.memory)
