-- What is promised of instruction words. Proved in `proofs/Promises.antt`, but for the contracts of `decode` and `encode`
-- leaving no choice, which is `proofs/Settled.antt`.
use Rattle.std.specs.Prelude.{ℕ, ◌<◌, ◌^◌, ◌≡◌, ◌⊎◌, Option, Some}
use Rattle.isa.specs.declared.Instruction.{Instruction}
use Rattle.isa.specs.Opcodes.{opcode_at}
use Rattle.isa.specs.Word.{Bounded}
use Rattle.isa.specs.Decode.{decode_of, decode_number}
use Rattle.isa.specs.Encode.{parts_of, encode_of, encode_number, encode_word}

-- the word of a meaning means it again
abbrev pub DecodeEncode : Type 0
DecodeEncode = (i : Instruction) (w : ℕ) → encode_of i ≡ Some w → decode_of w ≡ Some i

-- the meaning of a word has that word and no other; a number of more than 32 bits has no meaning, so w is any number
abbrev pub EncodeDecode : Type 0
EncodeDecode = (w : ℕ) (i : Instruction) → decode_of w ≡ Some i → encode_of i ≡ Some w

-- the fields of a meaning lead to its own row of the list of instructions
abbrev pub ListAgrees : Type 0
ListAgrees = (i : Instruction) → (opcode_at (parts_of i)).means ≡ i

-- what is decoded has register numbers below 8 and a k of 16 bits; what is encoded is a word
abbrev pub DecodedBounded : Type 0
DecodedBounded = (w : ℕ) (i : Instruction) → decode_of w ≡ Some i → Bounded (parts_of i)

abbrev pub EncodedBelow : Type 0
EncodedBelow = (i : Instruction) (w : ℕ) → encode_of i ≡ Some w → w < 2 ^ 32

-- only 0 and 5 come out, and with 5 the word zero
abbrev pub DecodeNumbers : Type 0
DecodeNumbers = (r : Option Instruction) → (decode_number r ≡ 0) ⊎ (decode_number r ≡ 5)

abbrev pub EncodeNumbers : Type 0
EncodeNumbers = (r : Option ℕ) → (encode_number r ≡ 0) ⊎ (encode_number r ≡ 5)

abbrev pub RefusedWord : Type 0
RefusedWord = (r : Option ℕ) → encode_number r ≡ 5 → encode_word r ≡ 0
