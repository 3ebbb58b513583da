-- The premises of the reclaim promise can be met: two tales, of a share and of a loan, told line by line, and the promise
-- holds of them. Proved in `proofs/PromiseApplies.antt`.
--
-- In both a second transaction is in flight, under handle 0. The receiver retrieves and relinquishes twice, and two values
-- are stored to one word. The sender is denied to reclaim while the pages are retrieved, and so is another guest: in the
-- share the receiver, once it has given the page back, so that it is denied for who it is. Registers and programs are those
-- of the start: nothing is set by hand in between.
use Rattle.std.specs.Prelude.{ℕ, ◌-◌, ◌*◌, ◌≡◌, true, false, List, [], ◌∷◌, map, replicate, Some}
use Rattle.isa.specs.declared.Instruction.{Instruction}
use Rattle.isa.specs.declared.Instruction.TheVariants.{Movi, Mov, Str, Addi, Hvc}
use Rattle.isa.specs.Word.{word_of}
use Rattle.isa.specs.Encode.{parts_of}
use Rattle.model.specs.declared.VmId.{VmId}
use Rattle.model.specs.declared.PageId.{PageId}
use Rattle.model.specs.declared.Handle.{Handle}
use Rattle.model.specs.declared.Registers.{Registers}
use Rattle.model.specs.declared.PageRecord.{PageRecord}
use Rattle.model.specs.declared.Kind.{Kind}
use Rattle.model.specs.declared.Kind.TheVariants.{Lend, Share}
use Rattle.model.specs.declared.Transaction.{Transaction}
use Rattle.model.specs.declared.Machine.{Machine}
use Rattle.model.specs.Constants.{ERROR, SUCCESS, RUN, YIELD, LEND, SHARE, RETRIEVE, RELINQUISH, RECLAIM, DENIED}
use Rattle.model.specs.State.{State, state, vm, page, handle, record_at, argument}
use Rattle.model.specs.Memory.{loaded}
use Rattle.model.specs.Deeds.{freed}
use Rattle.model.specs.Blank.{blank_registers}
use Rattle.model.specs.Act.{Act, step, call, after, after_all, Event, Quiet, Stored, Retrieved, Relinquished, callers_in, event_of, events, last_stored}
use Rattle.model.specs.Promise.{Story, Returned}
use Rattle.model.specs.PCases.{owned, ownerless, three_guests, words}

-- Starts: three guests and twelve pages. Pages 0 to 2 are owned by guests 0 to 2 and hold their programs, pages 3 to 8 are
-- TX and RX of guests 0, 1 and 2. The registers, the records of pages 9 to 11, handle 0 and who is current are the tale's.

-- R0 to R7, and pc
unfoldable pub file : List ℕ → ℕ → Registers
file r pc = record { r = r; pc = pc; equal = false }

-- page 10 is sent, and retrieved
unfoldable pub in_flight : Kind → VmId → VmId → Transaction
in_flight kind sender receiver =
    record {
      deal = Some (record { sender = sender; receiver = receiver; kind = kind; retrieved = true; count = 1 });
      pages = page 10 ∷ replicate 7 (page 0);
    }

unfoldable pub machine_of :
    Registers → Registers → Registers → PageRecord → PageRecord → PageRecord → Transaction → VmId → Machine
machine_of guest0 guest1 guest2 page9 page10 page11 handle0 current =
    three_guests 12
    (guest0 ∷ guest1 ∷ guest2 ∷ replicate 5 blank_registers)
    (page9 ∷ page10 ∷ page11 ∷ replicate 52 (ownerless 0 false))
    (handle0 ∷ replicate 15 freed)
    current

-- R0, which holds the one number, becomes the other, which is not lower: from what a call left there to the next call's
infix 70 ◌becomes◌
abbrev pub ◌becomes◌ : ℕ → ℕ → Instruction
old becomes new = Addi 0 (new - old)

unfoldable pub program : List Instruction → List ℕ
program = map (λ i. word_of (parts_of i))

-- Tales.

-- a line of a log: the guest that acts, its R0 and R1; the act; its R0 and R2 afterwards, and the event
pub record Line : Type 0 where
  pub guest : VmId
  pub r0 : ℕ
  pub r1 : ℕ
  pub act : Act
  pub r0_after : ℕ
  pub r2_after : ℕ
  pub event : Event

abbrev pub line : ℕ → ℕ → ℕ → Act → ℕ → ℕ → Event → Line
line g r0 r1 act r0_after r2_after event =
    record { guest = vm g; r0 = r0; r1 = r1; act = act; r0_after = r0_after; r2_after = r2_after; event = event }

unfoldable pub acts_of : List Line → List Act
acts_of = map (λ l. l.act)

unfoldable pub events_of : List Line → List Event
events_of = map (λ l. l.event)

-- the line of an act that led from s to t, with its event
unfoldable pub line_of : Act → State → State → Event → Line
line_of a s t event =
    record {
      guest = s.machine.current;
      r0 = argument s.machine 0;
      r1 = argument s.machine 1;
      act = a;
      r0_after = callers_in s t 0;
      r2_after = callers_in s t 2;
      event = event;
    }

unfoldable pub log_of : List Act → State → List Line
log_of [] s = []
log_of (a ∷ rest) s = line_of a s (after a s) (event_of a s) ∷ log_of rest (after a s)

-- what is seen of a state: the records of some pages, and the words at some addresses
pub record Sight : Type 0 where
  pub records : List PageRecord
  pub words : List ℕ

unfoldable pub seen_in : State → List PageId → List ℕ → Sight
seen_in s ps xs = record { records = map (record_at s.machine.records) ps; words = map (loaded s.memory) xs }

-- what the last stores put at the addresses, where the words were those of s
unfoldable pub last_stores : List Event → State → List ℕ → List ℕ
last_stores es s = map (λ x. last_stored x es (loaded s.memory x))

-- what is told, whole: the sending of pages, the lines behind it, the reclaim; and what is seen at the start and at the end
pub record Tale : Type 0 where
  pub kind : Kind
  pub sender : VmId
  pub receiver : VmId
  pub under : Handle
  pub pages : List PageId
  pub start : State
  pub sending : Act
  pub lines : List Line
  pub reclaiming : Act
  pub addresses : List ℕ
  pub at_first : Sight
  pub at_sending : Sight
  pub at_last : Sight

unfoldable pub after_sending : Tale → State
after_sending t = after t.sending t.start

unfoldable pub after_reclaim : Tale → State
after_reclaim t = after t.reclaiming (after_all (acts_of t.lines) (after_sending t))

-- the premises are met, the acts go as the lines say, what is promised holds, and the rest is as the tale has it
pub record Told (t : Tale) : Type 0 where
  pub story :
      Story t.start t.sending (acts_of t.lines) t.reclaiming t.kind t.sender t.receiver t.under t.pages
  pub by_line : log_of (acts_of t.lines) (after_sending t) ≡ t.lines
  pub by_event : events (acts_of t.lines) (after_sending t) ≡ events_of t.lines
  pub returned :
      Returned t.start (after_reclaim t) (events_of t.lines) t.kind t.sender t.receiver t.under t.pages
  pub sees_first : seen_in t.start t.pages t.addresses ≡ t.at_first
  pub sees_sent : seen_in (after_sending t) t.pages t.addresses ≡ t.at_sending
  pub sees_last : seen_in (after_reclaim t) t.pages t.addresses ≡ t.at_last
  pub stores_at_last : last_stores (events_of t.lines) t.start t.addresses ≡ t.at_last.words

-- The share. Guest 1 shares page 9 with guest 0, under handle 1; page 10 is lent by guest 2 to guest 0. The calls are made
-- alone, between the instructions, and so do not stand among them.

unfoldable pub share_sender : List Instruction
share_sender =
    Str 4 3
    ∷ Mov 1 2
    ∷ SUCCESS becomes YIELD
    -- run again
    ∷ SUCCESS becomes RECLAIM
    ∷ Str 6 5
    ∷ ERROR becomes YIELD
    -- run again
    ∷ SUCCESS becomes RECLAIM
    ∷ []

unfoldable pub share_receiver : List Instruction
share_receiver =
    YIELD becomes RETRIEVE
    ∷ Str 4 3
    ∷ SUCCESS becomes RUN
    -- yielded to again
    ∷ YIELD becomes RELINQUISH
    ∷ Movi 1 0
    ∷ SUCCESS becomes RELINQUISH
    ∷ Movi 1 1
    ∷ SUCCESS becomes RECLAIM
    ∷ ERROR becomes RETRIEVE
    ∷ Str 6 5
    ∷ SUCCESS becomes RELINQUISH
    ∷ SUCCESS becomes RUN
    ∷ []

unfoldable pub share_start : State
share_start =
    state
    (machine_of
    (file (0 ∷ 0 ∷ 0 ∷ 9221 ∷ 22 ∷ 9223 ∷ 44 ∷ 0 ∷ []) 0)
    (file (SHARE ∷ 3 ∷ 0 ∷ 9221 ∷ 11 ∷ 9222 ∷ 33 ∷ 0 ∷ []) 1024)
    blank_registers
    (owned 1 0b010 true)
    (owned 2 0b001 true)
    (ownerless 0 false)
    (in_flight Lend (vm 2) (vm 0))
    (vm 1))
    (words 0 (program share_receiver)
    (words 1024 (program share_sender)
    (words (1024 * 5) (3 ∷ 0x00000003 ∷ 9216 ∷ [])
    (words 9220 (1 ∷ 2 ∷ 3 ∷ 4 ∷ []) (replicate (1024 * 12) 0)))))

unfoldable pub share : Tale
share =
    record {
      kind = Share;
      sender = vm 1;
      receiver = vm 0;
      under = handle 1;
      pages = page 9 ∷ [];
      start = share_start;
      sending = call;
      lines =
          line 1 SUCCESS 3 step SUCCESS 1 (Stored (vm 1) 9221 11)
          ∷ line 1 SUCCESS 3 step SUCCESS 1 Quiet
          ∷ line 1 SUCCESS 1 step YIELD 1 Quiet
          ∷ line 1 YIELD 1 call SUCCESS 1 Quiet
          ∷ line 0 YIELD 1 step RETRIEVE 0 Quiet
          ∷ line 0 RETRIEVE 1 call SUCCESS 0 (Retrieved (vm 0) (handle 1))
          ∷ line 0 SUCCESS 1 step SUCCESS 0 (Stored (vm 0) 9221 22)
          ∷ line 0 SUCCESS 1 step RUN 0 Quiet
          ∷ line 0 RUN 1 call RUN 0 Quiet
          ∷ line 1 SUCCESS 1 step RECLAIM 1 Quiet
          ∷ line 1 RECLAIM 1 call ERROR DENIED Quiet
          ∷ line 1 ERROR 1 step ERROR DENIED (Stored (vm 1) 9222 33)
          ∷ line 1 ERROR 1 step YIELD DENIED Quiet
          ∷ line 1 YIELD 1 call SUCCESS DENIED Quiet
          ∷ line 0 YIELD 1 step RELINQUISH 0 Quiet
          ∷ line 0 RELINQUISH 1 step RELINQUISH 0 Quiet
          ∷ line 0 RELINQUISH 0 call SUCCESS 0 (Relinquished (vm 0) (handle 0))
          ∷ line 0 SUCCESS 0 step RELINQUISH 0 Quiet
          ∷ line 0 RELINQUISH 0 step RELINQUISH 0 Quiet
          ∷ line 0 RELINQUISH 1 call SUCCESS 0 (Relinquished (vm 0) (handle 1))
          ∷ line 0 SUCCESS 1 step RECLAIM 0 Quiet
          ∷ line 0 RECLAIM 1 call ERROR DENIED Quiet
          ∷ line 0 ERROR 1 step RETRIEVE DENIED Quiet
          ∷ line 0 RETRIEVE 1 call SUCCESS DENIED (Retrieved (vm 0) (handle 1))
          ∷ line 0 SUCCESS 1 step SUCCESS DENIED (Stored (vm 0) 9223 44)
          ∷ line 0 SUCCESS 1 step RELINQUISH DENIED Quiet
          ∷ line 0 RELINQUISH 1 call SUCCESS DENIED (Relinquished (vm 0) (handle 1))
          ∷ line 0 SUCCESS 1 step RUN DENIED Quiet
          ∷ line 0 RUN 1 call RUN DENIED Quiet
          ∷ line 1 SUCCESS 1 step RECLAIM DENIED Quiet
          ∷ [];
      reclaiming = call;
      addresses = 9220 ∷ 9221 ∷ 9222 ∷ 9223 ∷ [];
      at_first = record { records = owned 1 0b010 true ∷ []; words = 1 ∷ 2 ∷ 3 ∷ 4 ∷ [] };
      at_sending = record { records = owned 1 0b010 false ∷ []; words = 1 ∷ 2 ∷ 3 ∷ 4 ∷ [] };
      at_last = record { records = owned 1 0b010 true ∷ []; words = 1 ∷ 22 ∷ 33 ∷ 44 ∷ [] };
    }

-- The loan. Guest 0 lends pages 9 and 11 to guest 2, under handle 1; page 10 is shared by guest 1 with guest 2. Steps only:
-- the calls are instructions.

unfoldable pub loan_sender : List Instruction
loan_sender =
    Hvc
    ∷ Movi 1 2
    ∷ SUCCESS becomes RUN
    ∷ Hvc
    -- yielded to by guest 2
    ∷ Mov 1 2
    ∷ YIELD becomes RECLAIM
    ∷ Hvc
    ∷ ERROR becomes RUN
    ∷ Hvc
    -- yielded to by guest 1
    ∷ Movi 1 2
    ∷ YIELD becomes RUN
    ∷ Hvc
    -- yielded to by guest 2
    ∷ Movi 1 1
    ∷ YIELD becomes RECLAIM
    ∷ Hvc
    ∷ []

unfoldable pub loan_stranger : List Instruction
loan_stranger = Hvc ∷ ERROR becomes YIELD ∷ Hvc ∷ []

unfoldable pub loan_receiver : List Instruction
loan_receiver =
    Hvc
    ∷ Str 4 3
    ∷ Str 5 3
    ∷ SUCCESS becomes YIELD
    ∷ Hvc
    -- run again
    ∷ SUCCESS becomes RELINQUISH
    ∷ Hvc
    ∷ Str 4 7
    ∷ SUCCESS becomes RETRIEVE
    ∷ Hvc
    ∷ Str 5 6
    ∷ SUCCESS becomes RELINQUISH
    ∷ Hvc
    ∷ SUCCESS becomes YIELD
    ∷ Hvc
    ∷ []

unfoldable pub loan_start : State
loan_start =
    state
    (machine_of
    (file (LEND ∷ 4 ∷ replicate 6 0) 0)
    (file (RECLAIM ∷ 1 ∷ replicate 6 0) 1024)
    (file (RETRIEVE ∷ 1 ∷ 0 ∷ 9221 ∷ 11 ∷ 22 ∷ 11265 ∷ 10250 ∷ []) 2048)
    (owned 0 0b001 true)
    (owned 1 0b110 false)
    (owned 0 0b001 true)
    (in_flight Share (vm 1) (vm 2))
    (vm 0))
    (words 0 (program loan_sender)
    (words 1024 (program loan_stranger)
    (words 2048 (program loan_receiver)
    (words (1024 * 3) (4 ∷ 0x00020002 ∷ 9216 ∷ 11264 ∷ [])
    (words 9220 (1 ∷ 2 ∷ []) (words 11264 (3 ∷ 4 ∷ []) (replicate (1024 * 12) 0)))))))

unfoldable pub loan : Tale
loan =
    record {
      kind = Lend;
      sender = vm 0;
      receiver = vm 2;
      under = handle 1;
      pages = page 9 ∷ page 11 ∷ [];
      start = loan_start;
      sending = step;
      lines =
          line 0 SUCCESS 4 step SUCCESS 1 Quiet
          ∷ line 0 SUCCESS 2 step RUN 1 Quiet
          ∷ line 0 RUN 2 step RUN 1 Quiet
          ∷ line 2 RETRIEVE 1 step SUCCESS 0 (Retrieved (vm 2) (handle 1))
          ∷ line 2 SUCCESS 1 step SUCCESS 0 (Stored (vm 2) 9221 11)
          ∷ line 2 SUCCESS 1 step SUCCESS 0 (Stored (vm 2) 9221 22)
          ∷ line 2 SUCCESS 1 step YIELD 0 Quiet
          ∷ line 2 YIELD 1 step SUCCESS 0 Quiet
          ∷ line 0 YIELD 2 step YIELD 1 Quiet
          ∷ line 0 YIELD 1 step RECLAIM 1 Quiet
          ∷ line 0 RECLAIM 1 step ERROR DENIED Quiet
          ∷ line 0 ERROR 1 step RUN DENIED Quiet
          ∷ line 0 RUN 1 step RUN DENIED Quiet
          ∷ line 1 RECLAIM 1 step ERROR DENIED Quiet
          ∷ line 1 ERROR 1 step YIELD DENIED Quiet
          ∷ line 1 YIELD 1 step SUCCESS DENIED Quiet
          ∷ line 0 YIELD 1 step YIELD DENIED Quiet
          ∷ line 0 YIELD 2 step RUN DENIED Quiet
          ∷ line 0 RUN 2 step RUN DENIED Quiet
          ∷ line 2 SUCCESS 1 step RELINQUISH 0 Quiet
          ∷ line 2 RELINQUISH 1 step SUCCESS 0 (Relinquished (vm 2) (handle 1))
          ∷ line 2 SUCCESS 1 step SUCCESS 0 (Stored (vm 2) 10250 11)
          ∷ line 2 SUCCESS 1 step RETRIEVE 0 Quiet
          ∷ line 2 RETRIEVE 1 step SUCCESS 0 (Retrieved (vm 2) (handle 1))
          ∷ line 2 SUCCESS 1 step SUCCESS 0 (Stored (vm 2) 11265 22)
          ∷ line 2 SUCCESS 1 step RELINQUISH 0 Quiet
          ∷ line 2 RELINQUISH 1 step SUCCESS 0 (Relinquished (vm 2) (handle 1))
          ∷ line 2 SUCCESS 1 step YIELD 0 Quiet
          ∷ line 2 YIELD 1 step SUCCESS 0 Quiet
          ∷ line 0 YIELD 2 step YIELD DENIED Quiet
          ∷ line 0 YIELD 1 step RECLAIM DENIED Quiet
          ∷ [];
      reclaiming = step;
      addresses = 9220 ∷ 9221 ∷ 11264 ∷ 11265 ∷ [];
      at_first = record { records = owned 0 0b001 true ∷ owned 0 0b001 true ∷ []; words = 1 ∷ 2 ∷ 3 ∷ 4 ∷ [] };
      at_sending = record { records = owned 0 0 true ∷ owned 0 0 true ∷ []; words = 1 ∷ 2 ∷ 3 ∷ 4 ∷ [] };
      at_last = record { records = owned 0 0b001 true ∷ owned 0 0b001 true ∷ []; words = 1 ∷ 22 ∷ 3 ∷ 22 ∷ [] };
    }

pub record PromiseApplies : Type 0 where
  pub to_a_share : Told share
  pub to_a_loan : Told loan
