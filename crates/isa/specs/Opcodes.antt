-- The list of instructions: the one place that says which fields each code has and what it means. A row's place in the
-- list, counted from 1, is its code.
use Rattle.std.specs.Prelude.{ℕ, List, [], ◌∷◌, get_or}
use Rattle.isa.specs.declared.Instruction.{Instruction}
use Rattle.isa.specs.declared.Instruction.TheVariants.{Movi, Movt, Mov, Ldr, Str, Add, Sub, Addi, Cmp, Bne, Br, Hvc, Halt}
use Rattle.isa.specs.declared.Shape.{Shape}
use Rattle.isa.specs.declared.Shape.TheVariants.{None, DK, DS, S, Bare}
use Rattle.isa.specs.declared.Fields.{Fields}
use Rattle.isa.specs.declared.Opcode.{Opcode}

-- an instruction with the fields that its word has
abbrev pub opcode : Shape → Instruction → Opcode
opcode shape means = record { shape = shape; means = means }

-- the thirteen instructions at the fields d, s, k, by their code from 1 on
unfoldable pub opcodes : ℕ → ℕ → ℕ → List Opcode
opcodes d s k =
    opcode DK (Movi d k)
    ∷ opcode DK (Movt d k)
    ∷ opcode DS (Mov d s)
    ∷ opcode DS (Ldr d s)
    ∷ opcode DS (Str d s)
    ∷ opcode DS (Add d s)
    ∷ opcode DS (Sub d s)
    ∷ opcode DK (Addi d k)
    ∷ opcode DS (Cmp d s)
    ∷ opcode S (Bne s)
    ∷ opcode S (Br s)
    ∷ opcode Bare Hvc
    ∷ opcode Bare Halt
    ∷ []

-- the row of a word's fields; code 0 and the codes behind the list are no instruction's
unfoldable pub opcode_at : Fields → Opcode
opcode_at f = get_or (opcode None Halt ∷ opcodes f.d f.s f.k) f.code (opcode None Halt)
