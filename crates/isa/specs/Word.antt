-- A word and its four fields: bits 0-7 the code, 8-11 d, 12-15 s, 16-31 k.
use Rattle.std.specs.Prelude.{ℕ, ◌+◌, ◌*◌, ◌/◌, ◌%◌, ◌<◌, ◌≤◌, Bool, false, ltb, eqb}
use Rattle.isa.specs.declared.Shape.{Shape}
use Rattle.isa.specs.declared.Shape.TheVariants.{None, DK, DS, S, Bare}
use Rattle.isa.specs.declared.Fields.{Fields}
use Rattle.isa.specs.Tests.{◌and◌}
use Rattle.isa.specs.Opcodes.{opcode_at}

-- a word cut into its fields
abbrev pub fields_of : ℕ → Fields
fields_of w = record { code = w % 256; d = w / 256 % 16; s = w / 4096 % 16; k = w / 65536 }

-- the word that has these fields
abbrev pub word_of : Fields → ℕ
word_of f = f.code + 256 * f.d + 4096 * f.s + 65536 * f.k

-- a field that the shape has is a register's number; one that it lacks is zero
unfoldable pub fits_shape : Shape → Fields → Bool
fits_shape None f = false
fits_shape DK f = ltb f.d 8 and eqb f.s 0
fits_shape DS f = ltb f.d 8 and ltb f.s 8 and eqb f.k 0
fits_shape S f = eqb f.d 0 and ltb f.s 8 and eqb f.k 0
fits_shape Bare f = eqb f.d 0 and eqb f.s 0 and eqb f.k 0

-- the fields are an instruction's
unfoldable pub legal : Fields → Bool
legal f = ltb f.k 65536 and fits_shape (opcode_at f).shape f

-- how large the fields of an instruction can be
pub record Bounded (f : Fields) : Type 0 where
  pub code : f.code ≤ 13
  pub d : f.d < 8
  pub s : f.s < 8
  pub k : f.k < 65536
