-- One instruction of a guest, from its registers, its rights and the memory: every instruction but the call itself.
use Rattle.std.specs.Prelude.{ℕ, ◌+◌, ◌-◌, ◌*◌, ◌%◌, Bool, cond, List, set, eqb, Option, Some, None}
use Rattle.isa.specs.declared.Instruction.{Instruction}
use Rattle.isa.specs.declared.Instruction.TheVariants.{Movi, Movt, Mov, Ldr, Str, Add, Sub, Addi, Cmp, Bne, Br, Hvc, Halt}
use Rattle.isa.specs.Decode.{decode_of}
use Rattle.model.specs.declared.Registers.{Registers}
use Rattle.model.specs.declared.Access.{Access}
use Rattle.model.specs.declared.Access.TheVariants.{Allowed, Outside, NoAccess, OwnMailbox}
use Rattle.model.specs.Constants.{WORD}
use Rattle.model.specs.State.{register, with_register, plus}
use Rattle.model.specs.Rights.{Rights, access}
use Rattle.model.specs.Memory.{fetched, loaded}

-- how a guest's step ends
pub data Move : Type 0 where
  moved : Registers → List ℕ → Move
  called : Move
  faulted : Move
  halted : Move

-- Words.

unfoldable pub minus : ℕ → ℕ → ℕ
minus a b = (a + (WORD - b)) % WORD

-- the low half of a, with k for the high half
unfoldable pub topped : ℕ → ℕ → ℕ
topped a k = a % 65536 + 65536 * k

-- Register files.

abbrev pub jumped : Registers → ℕ → Registers
jumped file pc = record { r = file.r; pc = pc; equal = file.equal }

unfoldable pub advanced : Registers → Registers
advanced file = jumped file (plus file.pc 1)

abbrev pub compared : Registers → Bool → Registers
compared file equal = record { r = file.r; pc = file.pc; equal = equal }

-- Rd becomes v, and pc goes on
unfoldable pub gets : Registers → List ℕ → ℕ → ℕ → Move
gets file memory d v = moved (advanced (with_register file d v)) memory

-- a miss of the access check is a fault
unfoldable pub if_allowed : Access → Move → Move
if_allowed Allowed move = move
if_allowed Outside move = faulted
if_allowed NoAccess move = faulted
if_allowed OwnMailbox move = faulted

-- Instructions.

unfoldable pub perform : Instruction → Rights → Registers → List ℕ → Move
perform (Movi d k) rights file memory = gets file memory d k
perform (Movt d k) rights file memory = gets file memory d (topped (register file d) k)
perform (Mov d s) rights file memory = gets file memory d (register file s)
perform (Ldr d s) rights file memory =
    if_allowed (access rights.loads memory (register file s)) (gets file memory d (loaded memory (register file s)))
perform (Str d s) rights file memory =
    if_allowed (access rights.stores memory (register file s)) (moved (advanced file) (set memory (register file s) (register file d)))
perform (Add d s) rights file memory = gets file memory d (plus (register file d) (register file s))
perform (Sub d s) rights file memory = gets file memory d (minus (register file d) (register file s))
perform (Addi d k) rights file memory = gets file memory d (plus (register file d) k)
perform (Cmp d s) rights file memory = moved (advanced (compared file (eqb (register file d) (register file s)))) memory
perform (Bne s) rights file memory = moved (cond file.equal (advanced file) (jumped file (register file s))) memory
perform (Br s) rights file memory = moved (jumped file (register file s)) memory
perform Hvc rights file memory = called
perform Halt rights file memory = halted

unfoldable pub execute : Option Instruction → Rights → Registers → List ℕ → Move
execute (Some i) rights file memory = perform i rights file memory
execute None rights file memory = faulted

unfoldable pub guest_step : Rights → Registers → List ℕ → Move
guest_step rights file memory =
    if_allowed (access rights.loads memory file.pc) (execute (decode_of (fetched file memory)) rights file memory)
