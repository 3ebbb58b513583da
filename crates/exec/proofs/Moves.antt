-- What an instruction leaves, from what the code did: a register that is set, a jump, a comparison, an access that is denied
-- or allowed, a word that is an instruction or none.
use Rattle.std.proofs.Common.{◌≡◌, ℕ, zero, suc, ◌<◌, ◌≤◌, Bool, true, false, eqb, List, length, sym, refl, ap, ◌∙◌, arith, eqb-true}
use borrow.Author.Tests.{eqb-false}
use Rattle.isa.specs.declared.Fields.{Fields}
use Rattle.isa.specs.declared.Opcode.{Opcode}
use Rattle.isa.specs.declared.Instruction.{Instruction}
use Rattle.isa.specs.declared.Instruction.TheVariants.{Halt}
use Rattle.isa.specs.Opcodes.{opcodes, opcode_at}
use Rattle.isa.specs.Word.{fields_of, legal}
use Rattle.isa.specs.Decode.{meaning_of, decode_of}
use Rattle.isa.proofs.Laws.{legal_bounded, NoneOf, none_below, no_opcode}
use Rattle.model.specs.declared.Registers.{Registers}
use Rattle.model.specs.Memory.{fetched}
use Rattle.model.specs.Rights.{Rights, access}
use Rattle.model.specs.State.{with_register}
use Rattle.model.specs.Execute.{Move, moved, advanced, gets, if_allowed, perform, execute, guest_step}
use Rattle.exec.specs.declared.instruction.Stop.{Stop}
use Rattle.exec.specs.declared.instruction.Stop.TheVariants.{Moved, Faulted}
use Rattle.exec.specs.Maps.{may_reach, allowed_by, by_maps}
use Rattle.exec.specs.Turn.{Turn, turn, ends, performs, turn_of}
use Rattle.exec.proofs.Reach.{reach_inside, reach_true, reach_false}

-- The fields of an instruction, in the form that `search` takes: registers' numbers, and 16 bits.

pub legal_d : (f : Fields) → legal f ≡ true → f.d < 8
legal_d f e = (legal_bounded f e).d

pub legal_s : (f : Fields) → legal f ≡ true → f.s < 8
legal_s f e = (legal_bounded f e).s

pub legal_k : (f : Fields) → legal f ≡ true → f.k < 65536
legal_k f e = (legal_bounded f e).k

-- A code that is none of 1 to 12 means halt.

pub none_from : (n x : ℕ) → (x ≤ n → x ≡ 0) → NoneOf n x
none_from zero x h = tt
none_from (suc n) x h = (none_from n x (λ l. h (omega arith)), λ e. omega (arith, h (omega arith)))

pub halts : (f : Fields) → NoneOf 12 f.code → (opcode_at f).means ≡ Halt
unfolding opcode_at opcodes
halts f none = go (eqb f.code 13) refl
  where
    go : (b : Bool) → eqb f.code 13 ≡ b → (opcode_at f).means ≡ Halt
    go true e = rw (eqb-true f.code 13 e)
    go false e = ap (λ (o : Opcode). o.means) (no_opcode f (none_below 13 _ (none, eqb-false _ _ e)))

-- A value that is made of registers that were read.

pub one_read : {A : Type 0} (op : ℕ → A) {a x : ℕ} {v : A} → v ≡ op a → a ≡ x → v ≡ op x
one_read op e one = rw (e, one)

pub two_read : {A : Type 0} (op : ℕ → ℕ → A) {a b x y : ℕ} {v : A} → v ≡ op a b → a ≡ x → b ≡ y → v ≡ op x y
two_read op e one two = rw (e, one, two)

-- What moves on: with Rd set, or with another memory.
module _ (rights : Rights) (file : Registers) (memory : List ℕ) {stop : Stop} {next : Registers} where
  pub gets_done :
      (i : Instruction) (d : ℕ) {v w : ℕ} →
      perform i rights file memory ≡ gets file memory d w →
      v ≡ w →
      (stop ≡ Moved) × (next ≡ advanced (with_register file d v)) →
      turn stop next memory ≡ performs i rights file memory
  unfolding performs ends gets
  gets_done i d same e did = rw (same, did.0, did.1, e)

  pub stores_done :
      (i : Instruction) {left other : List ℕ} →
      perform i rights file memory ≡ moved (advanced file) other →
      left ≡ other →
      (stop ≡ Moved) × (next ≡ advanced file) →
      turn stop next left ≡ performs i rights file memory
  unfolding performs ends
  stores_done i same e did = rw (same, did.0, did.1, e)

-- The code asks a test, and goes on if the answer is true.

pub passes : {b t : Bool} → b ≡ t → b ≡ true → t ≡ true
passes e h = sym e ∙ h

pub fails : {b t : Bool} → b ≡ t → b ≡ false → t ≡ false
fails e h = sym e ∙ h

pub asked_inside : (map words x : ℕ) {b : Bool} → b ≡ may_reach map words x → b ≡ true → x < words
asked_inside map words x e h = reach_inside map words x (passes e h)

-- it asks for y, which is x
module _ (map : ℕ) (memory : List ℕ) (x : ℕ) {y : ℕ} {b : Bool} (same : y ≡ x) (e : b ≡ may_reach map (length memory) y) where
  pub asked_true : (move : Move) → b ≡ true → if_allowed (access (allowed_by map) memory x) move ≡ move
  asked_true move h = reach_true map memory x move (rw (← same) (passes e h))

  pub asked_false :
      (file : Registers) (move : Move) →
      b ≡ false →
      turn Faulted file memory ≡ ends (if_allowed (access (allowed_by map) memory x) move) file memory
  unfolding ends
  asked_false file move h = rw (reach_false map memory x move (rw (← same) (fails e h)))

-- A word that was fetched: it faults, or what its fields mean is performed.
module _
    (loads stores : ℕ) (file : Registers) (memory : List ℕ) {f : Fields} {b : Bool}
    (same : f ≡ fields_of (fetched file memory))
    (e : b ≡ may_reach loads (length memory) file.pc)
    (h : b ≡ true)
  where
    pub word_faults : legal f ≡ false → turn Faulted file memory ≡ turn_of (by_maps loads stores) file memory
    unfolding turn_of guest_step execute decode_of meaning_of ends
    word_faults l = rw (asked_true loads memory file.pc refl e _ h, ← same, l)

    pub word_performed :
        legal f ≡ true → {done : Turn} →
        done ≡ performs (opcode_at f).means (by_maps loads stores) file memory →
        done ≡ turn_of (by_maps loads stores) file memory
    unfolding turn_of guest_step execute decode_of meaning_of performs
    word_performed l did = rw (asked_true loads memory file.pc refl e _ h, ← same, l) did
