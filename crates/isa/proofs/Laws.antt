-- Laws of fields: when they are an instruction's, how large they are then, and that the list of instructions and the
-- fields of a meaning agree.
use Prim.Native.Nat.{ℕ, zero, suc, ◌+◌, ◌^◌, ◌<◌, ◌≤◌}
use mathlib.Core.Path.{◌≡◌, refl, ◌∙◌}
use mathlib.Core.Bool.{Bool, true, false}
use mathlib.Core.List.{List, [], ◌∷◌, map}
use native.Mathlib.Omega.{arith}
use lib.Dec.{leb}
use lib.ListN.{get_or, get_or-eq_default}
use borrow.Author.Tests.{ltb-true, eqb-true, leb-true, leb-false}
use Rattle.isa.specs.declared.Instruction.TheVariants.{Halt}
use Rattle.isa.specs.declared.Shape.{Shape}
use Rattle.isa.specs.declared.Shape.TheVariants.{None, DK, DS, S, Bare}
use Rattle.isa.specs.declared.Fields.{Fields}
use Rattle.isa.specs.declared.Opcode.{Opcode}
use Rattle.isa.specs.Opcodes.{opcode, opcodes, opcode_at}
use Rattle.isa.specs.Word.{fields_of, word_of, fits_shape, legal, Bounded}
use Rattle.isa.specs.Encode.{fields, parts_of}
use Rattle.isa.proofs.Tests.{and_parts}

ruleset tests = (arith, ltb-true, eqb-true)

same_fields :
    (f g : Fields) → f.code ≡ g.code → f.d ≡ g.d → f.s ≡ g.s → f.k ≡ g.k → f ≡ g
same_fields f g c d s k = λ i. record { code = c i; d = d i; s = s i; k = k i }

-- x is none of 1 to n, as the last arm of a match on numbers has it; then it is 0, or above n
abbrev pub NoneOf : ℕ → ℕ → Type 0
NoneOf zero x = Unit
NoneOf (suc n) x = NoneOf n x × (x ≡ suc n → ⊥)

pub none_below : (n x : ℕ) → NoneOf n x → x ≤ n → x ≡ 0
none_below zero x r h = omega arith
none_below (suc n) x r h = none_below n x r.0 (omega (arith, r.1))

-- the row of code 0 and of the codes behind the list
pub no_opcode : (f : Fields) → (f.code ≤ 13 → f.code ≡ 0) → opcode_at f ≡ opcode None Halt
unfolding opcode_at opcodes
no_opcode f h = go (leb f.code 13) refl
  where
    go : (b : Bool) → leb f.code 13 ≡ b → opcode_at f ≡ opcode None Halt
    go true e = rw (opcode_at, h (leb-true f.code 13 e))
    go false e =
        get_or-eq_default
        (opcode None Halt ∷ opcodes f.d f.s f.k)
        (opcode None Halt)
        (leb-false f.code 13 e)

-- the fields with zero where the shape has none. `None` is the shape of the row that stands for no instruction.
kept : Shape → Fields → Fields
kept None f = parts_of Halt
kept DK f = fields f.code f.d 0 f.k
kept DS f = fields f.code f.d f.s 0
kept S f = fields f.code 0 f.s 0
kept Bare f = fields f.code 0 0 0

-- what a passed test of the shape says
fits :
    (shape : Shape) (f : Fields) →
    fits_shape shape f ≡ true →
    (f.d < 8) × (f.s < 8) × (kept shape f ≡ f)
unfolding fits_shape kept
fits None f e = let z : ◌≡◌ {A = ℕ} 0 1 = cc in absurd (omega arith)
fits DK f e =
    let h = and_parts _ _ e in
    (omega tests, omega tests, same_fields _ f refl refl (omega tests) refl)
fits DS f e =
    let h = and_parts _ _ e in
    let g = and_parts _ _ h.1 in
    (omega tests, omega tests, same_fields _ f refl refl refl (omega tests))
fits S f e =
    let h = and_parts _ _ e in
    let g = and_parts _ _ h.1 in
    (omega tests, omega tests, same_fields _ f refl (omega tests) refl (omega tests))
fits Bare f e =
    let h = and_parts _ _ e in
    let g = and_parts _ _ h.1 in
    (omega tests, omega tests, same_fields _ f refl (omega tests) (omega tests) (omega tests))

legal_code : (f : Fields) → fits_shape (opcode_at f).shape f ≡ true → f.code ≤ 13
unfolding fits_shape
legal_code f e = go (leb f.code 13) refl
  where
    go : (b : Bool) → leb f.code 13 ≡ b → f.code ≤ 13
    go true t = leb-true _ _ t
    go false t =
        let h : 13 < f.code = leb-false _ _ t in
        let z : ◌≡◌ {A = ℕ} 0 1 = cc (no_opcode f (λ l. omega arith)) in
        absurd (omega arith)

pub legal_bounded : (f : Fields) → legal f ≡ true → Bounded f
unfolding legal
legal_bounded f e =
    let h = and_parts _ _ e in
    let g = fits (opcode_at f).shape f h.1 in
    record { code = legal_code f h.1; d = g.0; s = g.1; k = ltb-true _ _ h.0 }

-- for each row, from code n on, the fields that its shape has
kepts : ℕ → ℕ → ℕ → ℕ → List Opcode → List Fields
kepts d s k n [] = []
kepts d s k n (o ∷ os) = kept o.shape (fields n d s k) ∷ kepts d s k (suc n) os

-- where the list agrees with that row by row, each row's instruction has just these fields
parts_get_d :
    (d s k : ℕ) (os : List Opcode) (n : ℕ) →
    map (λ o. parts_of o.means) os ≡ kepts d s k n os →
    (i code : ℕ) →
    code ≡ n + i →
    parts_of (get_or os i (opcode None Halt)).means
    ≡ kept (get_or os i (opcode None Halt)).shape (fields code d s k)
unfolding kepts kept
parts_get_d d s k [] n e i code h = refl
parts_get_d d s k (o ∷ os) n e zero code h = let q : code ≡ n = omega arith in rw q (cc)
parts_get_d d s k (o ∷ os) n e (suc i) code h = parts_get_d d s k os (suc n) (cc) i code (omega arith)

parts_kept : (f : Fields) → parts_of (opcode_at f).means ≡ kept (opcode_at f).shape f
unfolding opcode_at opcodes kept kepts
parts_kept f =
    let rows = opcode None Halt ∷ opcodes f.d f.s f.k in
    parts_get_d f.d f.s f.k rows 0 refl f.code f.code (omega arith)

-- the fields of what a legal word means are that word's
pub parts_means : (f : Fields) → legal f ≡ true → parts_of (opcode_at f).means ≡ f
unfolding legal
parts_means f e = parts_kept f ∙ (fits (opcode_at f).shape f (and_parts _ _ e).1).2

pub fields_word : (f : Fields) → Bounded f → fields_of (word_of f) ≡ f
fields_word f b = same_fields _ f (omega arith) (omega arith) (omega arith) (omega arith)

pub word_fields : (w : ℕ) → word_of (fields_of w) ≡ w
word_fields w = omega arith

pub word_bounded : (f : Fields) → Bounded f → word_of f < 2 ^ 32
word_bounded f b = omega arith
