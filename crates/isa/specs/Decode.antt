-- What `decode` answers for a word.
use Rattle.std.specs.Prelude.{ℕ, cond, Option, Some, None}
use Rattle.isa.specs.declared.Instruction.{Instruction}
use Rattle.isa.specs.declared.Fields.{Fields}
use Rattle.isa.specs.Opcodes.{opcode_at}
use Rattle.isa.specs.Word.{fields_of, legal}

-- what fields mean: their row's instruction, if they are an instruction's
unfoldable pub meaning_of : Fields → Option Instruction
meaning_of f = cond (legal f) (Some (opcode_at f).means) None

unfoldable pub decode_of : ℕ → Option Instruction
decode_of w = meaning_of (fields_of w)

-- the answer's number
unfoldable pub decode_number : Option Instruction → ℕ
decode_number (Some i) = 0
decode_number None = 5
