-- One instruction leaves the memory as long as it was. And the laws of the inner loop: it goes on, it stops, its budget is spent.
use Rattle.std.proofs.Common.{◌≡◌, Option, Some, None, ℕ, zero, suc, ◌-◌, ◌<◌, ◌≤◌, List, length, refl, ap, ◌∙◌, arith, length-set}
use Rattle.isa.specs.declared.Instruction.{Instruction}
use Rattle.isa.specs.declared.Instruction.TheVariants.{Movi, Movt, Mov, Ldr, Str, Add, Sub, Addi, Cmp, Bne, Br, Hvc, Halt}
use Rattle.isa.specs.Decode.{decode_of}
use Rattle.model.specs.declared.Registers.{Registers}
use Rattle.model.specs.declared.Access.{Access}
use Rattle.model.specs.declared.Access.TheVariants.{Allowed, Outside, NoAccess, OwnMailbox}
use Rattle.model.specs.Rights.{Rights}
use Rattle.model.specs.Memory.{fetched}
use Rattle.model.specs.Execute.{Move, gets, if_allowed, perform, execute, guest_step}
use Rattle.exec.specs.declared.instruction.Stop.{Stop}
use Rattle.exec.specs.declared.instruction.Stop.TheVariants.{Moved, Called, Faulted, Halted}
use Rattle.exec.specs.Turn.{Turn, turn, ends, turn_of}
use Rattle.exec.specs.Burst.{Burst, burst, go_on, burst_of}

-- The memory's length.

-- a move leaves the memory as long as it was
abbrev Keeps : Move → Registers → List ℕ → Type 0
Keeps move file memory = length (ends move file memory).memory ≡ length memory

-- a miss of the access check leaves it
allowed_keeps : (a : Access) (move : Move) (file : Registers) (memory : List ℕ)
    → Keeps move file memory → Keeps (if_allowed a move) file memory
unfolding if_allowed ends
allowed_keeps Allowed move file memory kept = kept
allowed_keeps Outside move file memory kept = refl
allowed_keeps NoAccess move file memory kept = refl
allowed_keeps OwnMailbox move file memory kept = refl

-- each instruction: a store sets one word, the others none
perform_keeps : (i : Instruction) (rights : Rights) (file : Registers) (memory : List ℕ)
    → Keeps (perform i rights file memory) file memory
unfolding perform gets ends
perform_keeps (Movi d k) rights file memory = refl
perform_keeps (Movt d k) rights file memory = refl
perform_keeps (Mov d s) rights file memory = refl
perform_keeps (Ldr d s) rights file memory = allowed_keeps _ _ file memory refl
perform_keeps (Str d s) rights file memory = allowed_keeps _ _ file memory (length-set memory _ _)
perform_keeps (Add d s) rights file memory = refl
perform_keeps (Sub d s) rights file memory = refl
perform_keeps (Addi d k) rights file memory = refl
perform_keeps (Cmp d s) rights file memory = refl
perform_keeps (Bne s) rights file memory = refl
perform_keeps (Br s) rights file memory = refl
perform_keeps Hvc rights file memory = refl
perform_keeps Halt rights file memory = refl

-- each word
execute_keeps : (word : Option Instruction) (rights : Rights) (file : Registers) (memory : List ℕ)
    → Keeps (execute word rights file memory) file memory
unfolding execute ends
execute_keeps (Some i) rights file memory = perform_keeps i rights file memory
execute_keeps None rights file memory = refl

pub turn_length : (rights : Rights) (file : Registers) (memory : List ℕ)
    → length (turn_of rights file memory).memory ≡ length memory
unfolding guest_step turn_of
turn_length rights file memory =
    allowed_keeps _ _ file memory (execute_keeps (decode_of (fetched file memory)) rights file memory)

-- The inner loop.

-- a turn of it: how the turn ended decides whether the rest of the budget is spent
burst_turn : (stop : Stop) {next : Registers} {after : List ℕ} (rights : Rights) (left : ℕ) (file : Registers) (memory : List ℕ)
    → 0 < left → turn stop next after ≡ turn_of rights file memory
    → go_on stop (turn stop next after) (left - 1) (burst_of rights (left - 1)) ≡ burst_of rights left file memory
unfolding burst_of
burst_turn stop rights zero file memory h taken = absurd (omega arith)
burst_turn stop rights (suc left) file memory h taken =
    let one_less : suc left - 1 ≡ left = omega arith in
    rw one_less (ap (λ (t : Turn). go_on t.stop t left (burst_of rights left)) taken)

moves_on : (stop : Stop) (t : Turn) (left : ℕ) (rest : Registers → List ℕ → Burst) → stop ≡ Moved
    → rest t.file t.memory ≡ go_on stop t left rest
unfolding go_on
moves_on stop t left rest e = rw e

stays : (stop : Stop) (t : Turn) (left : ℕ) (rest : Registers → List ℕ → Burst) → (stop ≡ Moved → ⊥)
    → burst t left ≡ go_on stop t left rest
unfolding go_on
stays Moved t left rest e = absurd (e refl)
stays Called t left rest e = refl
stays Faulted t left rest e = refl
stays Halted t left rest e = refl

-- the loop goes on if the guest moved on, and stops if not; its budget is spent

pub burst_more : {stop : Stop} {next : Registers} {after : List ℕ}
    (rights : Rights) (left : ℕ) (file : Registers) (memory : List ℕ)
    → 0 < left → turn stop next after ≡ turn_of rights file memory → stop ≡ Moved
    → burst_of rights (left - 1) next after ≡ burst_of rights left file memory
burst_more {stop} rights left file memory h taken e =
    moves_on stop _ (left - 1) (burst_of rights (left - 1)) e ∙ burst_turn stop rights left file memory h taken

pub burst_stops : {stop : Stop} {next : Registers} {after : List ℕ}
    (rights : Rights) (left : ℕ) (file : Registers) (memory : List ℕ)
    → 0 < left → turn stop next after ≡ turn_of rights file memory → (stop ≡ Moved → ⊥)
    → burst (turn stop next after) (left - 1) ≡ burst_of rights left file memory
burst_stops {stop} rights left file memory h taken e =
    stays stop _ (left - 1) _ e ∙ burst_turn stop rights left file memory h taken

pub burst_spent : (rights : Rights) (left : ℕ) (file : Registers) (memory : List ℕ) → left ≤ 0
    → burst (turn Moved file memory) 0 ≡ burst_of rights left file memory
unfolding burst_of
burst_spent rights zero file memory h = refl
burst_spent rights (suc left) file memory h = absurd (omega arith)
