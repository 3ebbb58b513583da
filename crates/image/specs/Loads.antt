-- What is promised of loading. Proved in `proofs/Loads.antt`, and the worked images (`Worked.antt`) in `proofs/Computed.antt`.
use Rattle.std.specs.Prelude.{ℕ, ◌*◌, ◌<◌, ◌≤◌, ◌≡◌, false, List, length, replicate, None}
use Rattle.model.specs.declared.Mode.TheVariants.{Normal}
use Rattle.model.specs.declared.Machine.{Machine}
use Rattle.model.specs.declared.Answer.TheVariants.{Done}
use Rattle.model.specs.declared.Loaded.{Loaded}
use Rattle.model.specs.Constants.{PAGE, GUESTS, HANDLES}
use Rattle.model.specs.State.{vm, primary, registers_at}
use Rattle.model.specs.Answer.{answer_number}
use Rattle.model.specs.Deeds.{freed}
use Rattle.model.specs.Blank.{blank}
use Rattle.model.specs.Entries.{check_of}
use Rattle.image.specs.Judging.{broken, good, judged_of}
use Rattle.image.specs.Laying.{memory_of}
use Rattle.image.specs.Loading.{Put, load_of}

-- A loaded machine and its memory pass the check: the memory fits, and the machine is sound.
abbrev pub LoadedPasses : Type 0
LoadedPasses =
    (bytes memory : List ℕ)
    → answer_number (load_of bytes memory).result.answer ≡ 0
    → check_of (load_of bytes memory).result.machine (load_of bytes memory).memory ≡ Done

-- Every register is 0 and every flag clear, nothing waits, every handle is free, guest 0 is current and the mode is normal.
pub record Fresh (m : Machine) : Type 0 where
  pub registers_zero : (g : ℕ) → g < GUESTS → (registers_at m.registers (vm g)).r ≡ replicate 8 0
  pub flags_clear : (g : ℕ) → g < GUESTS → (registers_at m.registers (vm g)).equal ≡ false
  pub nothing_waits : m.inboxes ≡ replicate GUESTS None
  pub handles_free : m.transactions ≡ replicate HANDLES freed
  pub current_is_primary : m.current ≡ primary
  pub mode_is_normal : m.mode ≡ Normal

abbrev pub LoadedFresh : Type 0
LoadedFresh =
    (bytes memory : List ℕ)
    → answer_number (load_of bytes memory).result.answer ≡ 0
    → Fresh (load_of bytes memory).result.machine

-- The answer's number, with when it is given: 4 for exactly the broken images, whatever the memory, with the offset; and of the
-- good ones 0 for exactly those whose memory fits, else 1.
pub data Checked (bytes memory : List ℕ) (result : Loaded) : Type 0 where
  done :
      answer_number result.answer ≡ 0
      → judged_of bytes ≡ good result.machine result.budget
      → length memory ≡ PAGE * result.machine.m
      → Checked bytes memory result
  wrong_memory :
      (machine : Machine) (budget : ℕ)
      → answer_number result.answer ≡ 1
      → judged_of bytes ≡ good machine budget
      → (length memory ≡ PAGE * machine.m → ⊥)
      → Checked bytes memory result
  broken_image :
      answer_number result.answer ≡ 4 → judged_of bytes ≡ broken result.offset → Checked bytes memory result

-- A refused load: the blank machine, no budget, no offset unless it answers 4, and the memory as it was.
pub record Untouched (memory : List ℕ) (p : Put) : Type 0 where
  pub blank_machine : p.result.machine ≡ blank
  pub no_budget : p.result.budget ≡ 0
  pub offset_of_4 : (answer_number p.result.answer ≡ 4 → ⊥) → p.result.offset ≡ 0
  pub not_moved : p.memory ≡ memory

-- A load that is done: the machine that the image means, its words in the memory, and no offset.
pub record Loads (bytes memory : List ℕ) (p : Put) : Type 0 where
  pub its_machine : judged_of bytes ≡ good p.result.machine p.result.budget
  pub its_words : p.memory ≡ memory_of bytes (length memory)
  pub no_offset : p.result.offset ≡ 0

pub record LoadAnswers (bytes memory : List ℕ) : Type 0 where
  pub answers : Checked bytes memory (load_of bytes memory).result
  pub refuses : (answer_number (load_of bytes memory).result.answer ≡ 0 → ⊥) → Untouched memory (load_of bytes memory)
  pub loads : answer_number (load_of bytes memory).result.answer ≡ 0 → Loads bytes memory (load_of bytes memory)

-- The offset of a broken image lies in the image or at its end.
abbrev pub BadOffsetInside : Type 0
BadOffsetInside = (bytes : List ℕ) (offset : ℕ) → judged_of bytes ≡ broken offset → offset ≤ length bytes
