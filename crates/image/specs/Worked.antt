-- Worked images, computed: the scope document's example, and one that is broken for each rule. Proved in `proofs/Computed.antt`.
use Rattle.std.specs.Prelude.{ℕ, ◌≡◌, true, false, List, [], ◌∷◌, ◌++◌, get_or, take, drop, replicate}
use Rattle.model.specs.declared.Mailbox.{Mailbox}
use Rattle.model.specs.declared.PageRecord.{PageRecord}
use Rattle.model.specs.declared.Mode.TheVariants.{Halted}
use Rattle.model.specs.State.{state, vm}
use Rattle.model.specs.Answer.{answer_number}
use Rattle.model.specs.Legs.{shown, line}
use Rattle.model.specs.PCases.{box, owned, ownerless}
use Rattle.image.specs.Loading.{Put, load_of}

-- Records, their numbers all below 256.

unfoldable pub counts : ℕ → ℕ → List ℕ
counts n m = 4 ∷ 0 ∷ 1 ∷ 0 ∷ n ∷ 0 ∷ m ∷ 0 ∷ []

-- a guest that starts at 256 times so much
unfoldable pub guest : ℕ → ℕ → ℕ → ℕ → List ℕ
guest g tx rx start = 10 ∷ 0 ∷ 2 ∷ 0 ∷ g ∷ 0 ∷ tx ∷ 0 ∷ rx ∷ 0 ∷ 0 ∷ start ∷ 0 ∷ 0 ∷ []

unfoldable pub owner : ℕ → ℕ → List ℕ
owner p g = 4 ∷ 0 ∷ 3 ∷ 0 ∷ p ∷ 0 ∷ g ∷ 0 ∷ []

-- one word at 256 times so much
unfoldable pub word : ℕ → ℕ → List ℕ
word x w = 8 ∷ 0 ∷ 4 ∷ 0 ∷ 0 ∷ x ∷ 0 ∷ 0 ∷ w ∷ 0 ∷ 0 ∷ 0 ∷ []

unfoldable pub budget : ℕ → List ℕ
budget steps = 4 ∷ 0 ∷ 5 ∷ 0 ∷ steps ∷ 0 ∷ 0 ∷ 0 ∷ []

-- The example: two guests, seven pages, and a program that yields and halts.

unfoldable pub program : List ℕ
program =
    20 ∷ 0 ∷ 4 ∷ 0 ∷ 0 ∷ 0 ∷ 0 ∷ 0
    ∷ 0x01 ∷ 0x00 ∷ 0x6C ∷ 0x00
    ∷ 0x02 ∷ 0x00 ∷ 0x00 ∷ 0x84
    ∷ 0x0C ∷ 0x00 ∷ 0x00 ∷ 0x00
    ∷ 0x0D ∷ 0x00 ∷ 0x00 ∷ 0x00
    ∷ []

unfoldable pub example : List ℕ
example = counts 2 7 ++ guest 0 2 3 0 ++ guest 1 4 5 4 ++ owner 0 0 ++ owner 1 1 ++ program ++ budget 100

-- what can be seen of a load
pub record Seen : Type 0 where
  pub answer : ℕ
  pub guests : ℕ
  pub pages : ℕ
  pub starts : ℕ
  pub boxes : List Mailbox
  pub records : List PageRecord
  pub budget : ℕ
  pub offset : ℕ
  pub words : List ℕ
  pub behind : List ℕ

unfoldable pub seen : Put → Seen
seen p =
    record {
      answer = answer_number p.result.answer;
      guests = p.result.machine.n;
      pages = p.result.machine.m;
      starts = (get_or p.result.machine.registers 1 (record { r = []; pc = 0; equal = false })).pc;
      boxes = take 3 p.result.machine.mailboxes;
      records = take 8 p.result.machine.records;
      budget = p.result.budget;
      offset = p.result.offset;
      words = take 5 p.memory;
      behind = drop 7167 p.memory;
    }

-- the offset that a load of these bytes tells, into memory of the right length, with what it answers
pub record Told : Type 0 where
  pub answer : ℕ
  pub offset : ℕ

unfoldable pub told : List ℕ → Told
told bytes =
    let p = load_of bytes (replicate 7168 9) in
    record { answer = answer_number p.result.answer; offset = p.result.offset }

abbrev pub bad : ℕ → Told
bad offset = record { answer = 4; offset = offset }

-- good so far: what is missing is the budget
unfoldable pub small : List ℕ
small = counts 2 7 ++ guest 0 2 3 0 ++ guest 1 4 5 4

pub record WorkedImages : Type 0 where
  pub loads :
      seen (load_of example (replicate 7168 9))
      ≡ record {
        answer = 0;
        guests = 2;
        pages = 7;
        starts = 1024;
        boxes = box 2 3 ∷ box 4 5 ∷ box 0 0 ∷ [];
        records =
            owned 0 0b01 true
            ∷ owned 1 0b10 true
            ∷ ownerless 0b01 true
            ∷ ownerless 0b01 true
            ∷ ownerless 0b10 true
            ∷ ownerless 0b10 true
            ∷ ownerless 0 false
            ∷ ownerless 0 false
            ∷ [];
        budget = 100;
        offset = 0;
        words = 0x006C0001 ∷ 0x84000002 ∷ 0x0000000C ∷ 0x0000000D ∷ 0 ∷ [];
        behind = 0 ∷ [];
      }
  -- and runs as it should
  pub runs :
      shown 100 (state (load_of example (replicate 7168 9)).result.machine (load_of example (replicate 7168 9)).memory)
      ≡ record { lines = line 3 (vm 0) 0x8400006C 0x84000061 0 ∷ []; answer = 0; count = 4; mode = Halted }
  -- of two words for one address the later wins
  pub later_wins : get_or (load_of (small ++ word 1 5 ++ word 1 6 ++ budget 1) (replicate 7168 9)).memory 256 0 ≡ 6
  -- kinds 2, 3 and 4 in any order, words for a mailbox page, and a start outside memory
  pub any_order : told (counts 2 7 ++ owner 0 1 ++ word 8 5 ++ guest 1 4 5 255 ++ guest 0 2 3 0 ++ budget 1) ≡ record { answer = 0; offset = 0 }
  -- nothing at all; cut short: three bytes of a header, a payload that ends early, one byte left over, and three
  pub empty : told [] ≡ bad 0
  pub header_short : told (4 ∷ 0 ∷ 1 ∷ []) ≡ bad 0
  pub payload_short : told (counts 2 7 ++ take 13 (guest 0 2 3 0)) ≡ bad 8
  pub left_over : told (small ++ budget 1 ++ 0 ∷ []) ≡ bad 44
  pub three_left_over : told (small ++ budget 1 ++ (4 ∷ 0 ∷ 3 ∷ [])) ≡ bad 44
  pub record_left_over : told (small ++ budget 1 ++ owner 0 0) ≡ bad 44
  -- kind 1 first, once, in range
  pub not_first : told (budget 1) ≡ bad 0
  pub twice : told (counts 2 7 ++ counts 2 7) ≡ bad 8
  pub too_few_guests : told (counts 1 7) ≡ bad 0
  pub too_many_guests : told (counts 9 20) ≡ bad 0
  pub too_many_pages : told (counts 2 65) ≡ bad 0
  pub too_few_pages : told (counts 4 7) ≡ bad 0
  -- 256 + 2 is not 2
  pub wide_count : told (4 ∷ 0 ∷ 1 ∷ 0 ∷ 2 ∷ 1 ∷ 7 ∷ 0 ∷ []) ≡ bad 0
  -- nor is guest 256 guest 0, or page 256 page 0
  pub wide_guest : told (counts 2 7 ++ (10 ∷ 0 ∷ 2 ∷ 0 ∷ 0 ∷ 1 ∷ 2 ∷ 0 ∷ 3 ∷ 0 ∷ 0 ∷ 0 ∷ 0 ∷ 0 ∷ [])) ≡ bad 8
  pub wide_page : told (small ++ (4 ∷ 0 ∷ 3 ∷ 0 ∷ 0 ∷ 1 ∷ 0 ∷ 0 ∷ [])) ≡ bad 36
  -- kind 2: below n and m, once a guest, on pages that differ and have no owner
  pub no_such_guest : told (counts 2 7 ++ guest 2 2 3 0) ≡ bad 8
  pub guest_twice : told (counts 2 7 ++ guest 0 2 3 0 ++ guest 0 4 5 0) ≡ bad 22
  pub no_such_rx : told (counts 2 7 ++ guest 0 2 7 0) ≡ bad 8
  pub no_such_tx : told (counts 2 7 ++ guest 0 7 3 0) ≡ bad 8
  pub one_box : told (counts 2 7 ++ guest 0 2 2 0) ≡ bad 8
  pub box_twice : told (counts 2 7 ++ guest 0 2 3 0 ++ guest 1 3 5 0) ≡ bad 22
  pub tx_owned : told (counts 2 7 ++ owner 2 0 ++ guest 0 2 3 0) ≡ bad 16
  pub rx_owned : told (counts 2 7 ++ owner 3 0 ++ guest 0 2 3 0) ≡ bad 16
  -- kind 3: the same, in the other order
  pub owner_of_box : told (small ++ owner 5 1) ≡ bad 36
  pub owner_twice : told (small ++ owner 0 1 ++ owner 0 1) ≡ bad 44
  pub no_such_owner : told (small ++ owner 0 2) ≡ bad 36
  pub no_such_page : told (small ++ owner 7 0) ≡ bad 36
  -- kind 4: an address and whole words, inside memory
  pub no_word : told (small ++ (4 ∷ 0 ∷ 4 ∷ 0 ∷ 0 ∷ 0 ∷ 0 ∷ 0 ∷ [])) ≡ bad 36
  pub half_word : told (small ++ (10 ∷ 0 ∷ 4 ∷ 0 ∷ 0 ∷ 0 ∷ 0 ∷ 0 ∷ 1 ∷ 0 ∷ 0 ∷ 0 ∷ 1 ∷ 0 ∷ [])) ≡ bad 36
  pub last_word : told (small ++ (8 ∷ 0 ∷ 4 ∷ 0 ∷ 0xFF ∷ 0x1B ∷ 0 ∷ 0 ∷ 1 ∷ 0 ∷ 0 ∷ 0 ∷ []) ++ budget 1) ≡ record { answer = 0; offset = 0 }
  pub end_outside : told (small ++ (12 ∷ 0 ∷ 4 ∷ 0 ∷ 0xFF ∷ 0x1B ∷ 0 ∷ 0 ∷ 1 ∷ 0 ∷ 0 ∷ 0 ∷ 1 ∷ 0 ∷ 0 ∷ 0 ∷ [])) ≡ bad 36
  pub outside : told (small ++ word 28 1) ≡ bad 36
  -- kind 5: after every guest, and the last; it may not be missing
  pub guest_missing : told (counts 2 7 ++ guest 0 2 3 0 ++ budget 1) ≡ bad 22
  pub no_budget : told small ≡ bad 36
  -- no other kind, and no other size
  pub no_such_kind : told (small ++ (0 ∷ 0 ∷ 6 ∷ 0 ∷ [])) ≡ bad 36
  pub short_budget : told (small ++ (2 ∷ 0 ∷ 5 ∷ 0 ∷ 1 ∷ 0 ∷ [])) ≡ bad 36
  pub long_counts : told (6 ∷ 0 ∷ 1 ∷ 0 ∷ 2 ∷ 0 ∷ 7 ∷ 0 ∷ 0 ∷ 0 ∷ []) ≡ bad 0
  pub long_budget : told (small ++ (5 ∷ 0 ∷ 5 ∷ 0 ∷ 1 ∷ 0 ∷ 0 ∷ 0 ∷ 0 ∷ [])) ≡ bad 36
  -- memory of another length is told of only where the image is good, and then without an offset
  pub wrong_memory : told (counts 2 8 ++ guest 0 2 3 0 ++ guest 1 4 5 4 ++ budget 1) ≡ record { answer = 1; offset = 0 }
  pub broken_first : told (counts 2 8 ++ budget 1) ≡ bad 8
