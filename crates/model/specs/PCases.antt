-- The worked cases P1 to P12 of the scope document, as one table. Each row has on its left what is computed, through the
-- definition of the entry, and on its right the document's literal.
--
-- The machine has three guests and ten pages: pages 0 to 2 are owned by guests 0 to 2, pages 3 to 8 are TX and RX of
-- guests 0, 1 and 2, and page 9 is owned by guest 1. Who is current is set by hand before each call.
use Rattle.std.specs.Prelude.{ℕ, ◌*◌, ◌<◌, ◌≡◌, Bool, true, false, List, [], ◌∷◌, Option, None, Some}
use Rattle.model.specs.declared.Deal.{Deal}
use lib.ListN.{replicate}
use Rattle.std.proofs.Math.Seq.{paste}
use Rattle.isa.specs.declared.Instruction.TheVariants.{Movi}
use Rattle.isa.specs.Decode.{decode_of}
use Rattle.model.specs.declared.VmId.{VmId}
use Rattle.model.specs.declared.Registers.{Registers}
use Rattle.model.specs.declared.Mailbox.{Mailbox}
use Rattle.model.specs.declared.PageRecord.{PageRecord}
use Rattle.model.specs.declared.Kind.{Kind}
use Rattle.model.specs.declared.Kind.TheVariants.{Lend, Share}
use Rattle.model.specs.declared.Transaction.{Transaction}
use Rattle.model.specs.declared.Mode.TheVariants.{Normal}
use Rattle.model.specs.declared.Machine.{Machine}
use Rattle.model.specs.State.{State, state, vm, page, handle, written, with_registers, with_current, registers_at, register, record_at, transaction_at}
use Rattle.model.specs.Tests.{every}
use Rattle.model.specs.Row.{page_record, same_record}
use Rattle.model.specs.Deeds.{freed}
use Rattle.model.specs.Blank.{blank_registers}
use Rattle.model.specs.Answer.{answer_number}
use Rattle.model.specs.Sending.{sent_page}
use Rattle.model.specs.Laws.{TakesLowestFree, Copies}
use Rattle.model.specs.Entries.{Acted, step_of, call_of}
use Rattle.model.specs.Kept.{owned_pages}

-- The machine.

unfoldable pub box : ℕ → ℕ → Mailbox
box tx rx = record { tx = page tx; rx = page rx }

-- a record by its columns: the owner, the guests with access as bits, the exclusive mark
unfoldable pub owned : ℕ → ℕ → Bool → PageRecord
owned owner access exclusive = page_record (Some (vm owner)) (record { 0 = access }) exclusive

unfoldable pub ownerless : ℕ → Bool → PageRecord
ownerless access exclusive = page_record None (record { 0 = access }) exclusive

-- three guests, each with a page of its own and its TX and RX page; the rest is given: the number of pages, the register
-- files, the records from page 9 on, the handles and who is current
unfoldable pub three_guests : ℕ → List Registers → List PageRecord → List Transaction → VmId → Machine
three_guests m registers rest transactions current =
    record {
      n = 3;
      m = m;
      registers = registers;
      mailboxes = box 3 4 ∷ box 5 6 ∷ box 7 8 ∷ replicate 5 (box 0 0);
      inboxes = replicate 8 None;
      records =
          owned 0 0b001 true
          ∷ owned 1 0b010 true
          ∷ owned 2 0b100 true
          ∷ ownerless 0b001 true
          ∷ ownerless 0b001 true
          ∷ ownerless 0b010 true
          ∷ ownerless 0b010 true
          ∷ ownerless 0b100 true
          ∷ ownerless 0b100 true
          ∷ rest;
      transactions = transactions;
      current = current;
      mode = Normal;
    }

unfoldable pub machine : Machine
machine =
    three_guests 10 (replicate 8 blank_registers) (owned 1 0b010 true ∷ replicate 54 (ownerless 0 false)) (replicate 16 freed) (vm 0)

-- Acts.

-- guest g is current, with these three registers
unfoldable pub turn : VmId → ℕ → ℕ → ℕ → Machine → Machine
turn g r0 r1 r2 m =
    with_current (with_registers m (written (written (written m.registers g 0 r0) g 1 r1) g 2 r2)) g

-- words from an address on
unfoldable pub words : ℕ → List ℕ → List ℕ → List ℕ
words x new memory = paste memory x new (lib.ListN.length new)

-- guest g makes the call after what went before
unfoldable pub next : VmId → ℕ → ℕ → ℕ → Acted → Acted
next g r0 r1 r2 before = call_of (turn g r0 r1 r2 before.result.machine) before.memory

-- guest 1 is about to send pages by the call r0, with the descriptor in its TX page, page 5
unfoldable pub sending : ℕ → List ℕ → State
sending r0 descriptor = state (turn (vm 1) r0 3 0 machine) (words (1024 * 5) descriptor (replicate (1024 * 10) 0))

-- guest 1 is about to send guest 2 a message
unfoldable pub messaging : ℕ → State
messaging length = state (turn (vm 1) 0x8400006E 2 length machine) (replicate (1024 * 10) 0)

-- the call that is about to be made
unfoldable pub called : State → Acted
called s = call_of s.machine s.memory

unfoldable pub send : ℕ → List ℕ → Acted
send r0 descriptor = called (sending r0 descriptor)

-- one instruction of guest 0 at address 0, with R0 and R1
unfoldable pub instruction : ℕ → ℕ → ℕ → Acted
instruction word r0 r1 = step_of (turn (vm 0) r0 r1 0 machine) (words 0 (word ∷ []) (replicate (1024 * 10) 0))

-- What is looked at: the entry's answer, R0 and R2 of guest g, page 9's record, handle 0's place.

pub record Seen : Type 0 where
  pub answer : ℕ
  pub r0 : ℕ
  pub r2 : ℕ
  pub page9 : PageRecord
  pub handle0 : Option Deal

unfoldable pub seen_by : VmId → Acted → Seen
seen_by g a =
    record {
      answer = answer_number a.result.answer;
      r0 = register (registers_at a.result.machine.registers g) 0;
      r2 = register (registers_at a.result.machine.registers g) 2;
      page9 = record_at a.result.machine.records (page 9);
      handle0 = (transaction_at a.result.machine.transactions (handle 0)).deal;
    }

unfoldable pub seen : ℕ → ℕ → ℕ → PageRecord → Option Deal → Seen
seen answer r0 r2 page9 handle0 = record { answer = answer; r0 = r0; r2 = r2; page9 = page9; handle0 = handle0 }

-- every page's record is in both what it is in the other
unfoldable pub same_records : Acted → Acted → Bool
same_records a b =
    every 64 (λ p. same_record (record_at a.result.machine.records (page p)) (record_at b.result.machine.records (page p)))

-- a transaction of one page from guest 1 to guest 2
unfoldable pub from1to2 : Kind → Bool → Option Deal
from1to2 kind retrieved =
    Some (record { sender = vm 1; receiver = vm 2; kind = kind; retrieved = retrieved; count = 1 })

-- The cases, each after those that it goes on from.

-- P1, about to be called
unfoldable pub sharing : State
sharing = sending 0x84000073 (3 ∷ 0x00020003 ∷ 9216 ∷ [])

unfoldable pub shared : Acted
shared = called sharing

unfoldable pub share_retrieved : Acted
share_retrieved = next (vm 2) 0x84000074 0 0 shared

unfoldable pub reclaimed_early : Acted
reclaimed_early = next (vm 1) 0x84000077 0 0 share_retrieved

unfoldable pub reclaimed_late : Acted
reclaimed_late = next (vm 1) 0x84000077 0 0 (next (vm 2) 0x84000076 0 0 share_retrieved)

unfoldable pub lend_retrieved : Acted
lend_retrieved = next (vm 2) 0x84000074 0 0 (send 0x84000072 (3 ∷ 0x00020002 ∷ 9216 ∷ []))

unfoldable pub donation_retrieved : Acted
donation_retrieved = next (vm 2) 0x84000074 0 0 (send 0x84000071 (3 ∷ 0x00020001 ∷ 9216 ∷ []))

unfoldable pub retrieved_by_zero : Acted
retrieved_by_zero = next (vm 0) 0x84000074 0 0 shared

unfoldable pub message_of_length : ℕ → Acted
message_of_length length = called (messaging length)

pub record PCases : Type 0 where
  pub P1 : seen_by (vm 1) shared ≡ seen 0 0x84000061 0 (owned 1 0b010 false) (from1to2 Share false)
  pub P2 : seen_by (vm 2) share_retrieved ≡ seen 0 0x84000061 0 (owned 1 0b110 false) (from1to2 Share true)
  pub P3 : seen_by (vm 1) reclaimed_early ≡ seen 0 0x84000060 4294967290 (owned 1 0b110 false) (from1to2 Share true)
  pub P3-no-record-changes : same_records reclaimed_early share_retrieved ≡ true
  pub P4 : seen_by (vm 1) reclaimed_late ≡ seen 0 0x84000061 0 (owned 1 0b010 true) None
  pub P5 : seen_by (vm 2) lend_retrieved ≡ seen 0 0x84000061 0 (owned 1 0b100 true) (from1to2 Lend true)
  pub P6 : seen_by (vm 2) donation_retrieved ≡ seen 0 0x84000061 0 (owned 2 0b100 true) None
  pub P7 : seen_by (vm 0) retrieved_by_zero ≡ seen 0 0x84000060 4294967290 (owned 1 0b010 false) (from1to2 Share false)
  pub P8 : seen_by (vm 1) (send 0x84000073 (3 ∷ 0x00020003 ∷ 9217 ∷ [])) ≡ seen 0 0x84000060 4294967294 (owned 1 0b010 true) None
  pub P9 : seen_by (vm 1) (send 0x84000073 (3 ∷ 0x00020003 ∷ 5120 ∷ [])) ≡ seen 0 0x84000060 4294967290 (owned 1 0b010 true) None
  pub P10-none : seen_by (vm 1) (message_of_length 0) ≡ seen 0 0x84000060 4294967294 (owned 1 0b010 true) None
  pub P10-above : seen_by (vm 1) (message_of_length 1025) ≡ seen 0 0x84000060 4294967294 (owned 1 0b010 true) None
  pub P10-all : seen_by (vm 1) (message_of_length 1024) ≡ seen 0 0x84000061 1024 (owned 1 0b010 true) None
  pub P11 : seen_by (vm 0) (instruction 0x00001006 0xFFFFFFFF 1) ≡ seen 0 0 0 (owned 1 0b010 true) None
  pub P12 : decode_of 0x006C0001 ≡ Some (Movi 0 108)
  pub P12-none : decode_of 0x00000801 ≡ None

-- The laws over the number have premises that can be met: these are the laws at P1 and at the last of P10.
pub record LawsApply : Type 0 where
  pub pages_ascend_at_p1 : (i j : ℕ) → i < j → j < 1 → (sent_page sharing i).0 < (sent_page sharing j).0
  pub handle_0_is_taken_at_p1 : TakesLowestFree Share sharing (handle 0)
  pub words_are_copied_at_p10 : Copies (messaging 1024)

-- Of its ten pages four have an owner, and after P6, where a page has a new one, still four.
pub record OwnedPages : Type 0 where
  pub at_first : owned_pages machine ≡ 4
  pub after_p6 : owned_pages donation_retrieved.result.machine ≡ 4
