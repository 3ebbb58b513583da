-- What `encode` answers for a meaning.
use Rattle.std.specs.Prelude.{ℕ, cond, Option, Some, None}
use Rattle.isa.specs.declared.Instruction.{Instruction}
use Rattle.isa.specs.declared.Instruction.TheVariants.{Movi, Movt, Mov, Ldr, Str, Add, Sub, Addi, Cmp, Bne, Br, Hvc, Halt}
use Rattle.isa.specs.declared.Fields.{Fields}
use Rattle.isa.specs.Word.{word_of, legal}

abbrev pub fields : ℕ → ℕ → ℕ → ℕ → Fields
fields code d s k = record { code = code; d = d; s = s; k = k }

-- the fields of a meaning: its place in the list of instructions, and zero where it has no field
abbrev pub parts_of : Instruction → Fields
parts_of (Movi d k) = fields 1 d 0 k
parts_of (Movt d k) = fields 2 d 0 k
parts_of (Mov d s) = fields 3 d s 0
parts_of (Ldr d s) = fields 4 d s 0
parts_of (Str d s) = fields 5 d s 0
parts_of (Add d s) = fields 6 d s 0
parts_of (Sub d s) = fields 7 d s 0
parts_of (Addi d k) = fields 8 d 0 k
parts_of (Cmp d s) = fields 9 d s 0
parts_of (Bne s) = fields 10 0 s 0
parts_of (Br s) = fields 11 0 s 0
parts_of Hvc = fields 12 0 0 0
parts_of Halt = fields 13 0 0 0

unfoldable pub encode_of : Instruction → Option ℕ
encode_of i = cond (legal (parts_of i)) (Some (word_of (parts_of i))) None

-- the answer's number, and the word that goes with it
unfoldable pub encode_number : Option ℕ → ℕ
encode_number (Some w) = 0
encode_number None = 5

unfoldable pub encode_word : Option ℕ → ℕ
encode_word (Some w) = w
encode_word None = 0
