-- The promises of `specs/Promises.antt`.
use Prim.Native.Nat.{ℕ}
use mathlib.Core.Path.{◌≡◌, refl, ap, ◌∙◌}
use mathlib.Core.Bool.{true}
use mathlib.Core.Logic.{inl, inr}
use native.Mathlib.Omega.{arith}
use Rattle.std.specs.Prelude.{Some, None}
use Rattle.isa.specs.declared.Instruction.{Instruction}
use Rattle.isa.specs.declared.Instruction.TheVariants.{Movi, Movt, Mov, Ldr, Str, Add, Sub, Addi, Cmp, Bne, Br, Hvc, Halt}
use Rattle.isa.specs.Opcodes.{opcodes, opcode_at}
use Rattle.isa.specs.Word.{fields_of, word_of, legal, Bounded}
use Rattle.isa.specs.Decode.{meaning_of, decode_of, decode_number}
use Rattle.isa.specs.Encode.{parts_of, encode_of, encode_number, encode_word}
use Rattle.isa.specs.Promises.{DecodeEncode, EncodeDecode, ListAgrees, DecodedBounded, EncodedBelow, DecodeNumbers, EncodeNumbers, RefusedWord}
use Rattle.isa.proofs.Tests.{cond_left}
use Rattle.isa.proofs.Laws.{legal_bounded, parts_means, fields_word, word_fields, word_bounded}

pub list_agrees : ListAgrees
unfolding opcode_at opcodes
list_agrees (Movi d k) = refl
list_agrees (Movt d k) = refl
list_agrees (Mov d s) = refl
list_agrees (Ldr d s) = refl
list_agrees (Str d s) = refl
list_agrees (Add d s) = refl
list_agrees (Sub d s) = refl
list_agrees (Addi d k) = refl
list_agrees (Cmp d s) = refl
list_agrees (Bne s) = refl
list_agrees (Br s) = refl
list_agrees Hvc = refl
list_agrees Halt = refl

decoded_parts :
    (w : ℕ) (i : Instruction) →
    decode_of w ≡ Some i →
    (legal (fields_of w) ≡ true) × (parts_of i ≡ fields_of w)
unfolding decode_of meaning_of
decoded_parts w i e =
    let h = cond_left (legal (fields_of w)) (Some (opcode_at (fields_of w)).means) _ _ (λ q. cc) e in
    let same : (opcode_at (fields_of w)).means ≡ i = cc in
    (h.0, rw (← same) (parts_means (fields_of w) h.0))

encoded_parts :
    (i : Instruction) (w : ℕ) →
    encode_of i ≡ Some w →
    Bounded (parts_of i) × (legal (parts_of i) ≡ true) × (word_of (parts_of i) ≡ w)
unfolding encode_of
encoded_parts i w e =
    let h = cond_left (legal (parts_of i)) (Some (word_of (parts_of i))) _ _ (λ q. cc) e in
    (legal_bounded (parts_of i) h.0, h.0, cc)

pub decode_encode : DecodeEncode
unfolding decode_of meaning_of
decode_encode i w e =
    let h = encoded_parts i w e in
    let f : fields_of w ≡ parts_of i = rw (← h.2) (fields_word (parts_of i) h.0) in
    ap meaning_of f ∙ rw (h.1, list_agrees i)

pub encode_decode : EncodeDecode
unfolding encode_of
encode_decode w i e = let h = decoded_parts w i e in rw (h.1, h.0) (ap Some (word_fields w))

pub decoded_bounded : DecodedBounded
decoded_bounded w i e =
    let h = decoded_parts w i e in rw h.1 (legal_bounded (fields_of w) h.0)

pub encoded_below : EncodedBelow
encoded_below i w e =
    let h = encoded_parts i w e in rw (← h.2) (word_bounded (parts_of i) h.0)

pub decode_numbers : DecodeNumbers
unfolding decode_number
decode_numbers (Some i) = inl refl
decode_numbers None = inr refl

pub encode_numbers : EncodeNumbers
unfolding encode_number
encode_numbers (Some w) = inl refl
encode_numbers None = inr refl

pub refused_word_lem : RefusedWord
unfolding encode_number encode_word
refused_word_lem (Some w) e = absurd (omega arith)
refused_word_lem None e = refl
