-- What a step does, in every state: one of the cases of `Cases.antt`.
use Prim.Native.Nat.{ℕ}
use mathlib.Core.Path.{◌≡◌, refl}
use mathlib.Core.Bool.{Bool, true, false, cond}
use lib.ListN.{length, length-set}
use Rattle.std.specs.Prelude.{Option, Some, None}
use Rattle.isa.specs.declared.Instruction.{Instruction}
use Rattle.isa.specs.declared.Instruction.TheVariants.{Movi, Movt, Mov, Ldr, Str, Add, Sub, Addi, Cmp, Bne, Br, Hvc, Halt}
use Rattle.isa.specs.Decode.{decode_of}
use Rattle.model.specs.declared.Registers.{Registers}
use Rattle.model.specs.declared.Access.{Access}
use Rattle.model.specs.declared.Access.TheVariants.{Allowed, Outside, NoAccess, OwnMailbox}
use Rattle.model.specs.State.{State, register, own_registers}
use Rattle.model.specs.Rights.{rights}
use Rattle.model.specs.Memory.{fetched}
use Rattle.model.specs.Execute.{Move, jumped, advanced, gets, if_allowed, perform, execute, guest_step}
use Rattle.model.specs.Step.{ended, step_effect}
use Rattle.model.specs.Act.{step, other, aim_of, aim_of_word, aim}
use Rattle.model.proofs.Cases.{StepCase, did_move, did_store, did_call, did_fault, did_halt}

-- a miss of the access check is a fault
allowed : (a : Access) (move : Move) (s : State) → (a ≡ Allowed → StepCase s (ended move s)) → StepCase s (ended (if_allowed a move) s)
unfolding if_allowed ended
allowed Allowed move s h = h refl
allowed Outside move s h = did_fault refl
allowed NoAccess move s h = did_fault refl
allowed OwnMailbox move s h = did_fault refl

-- an instruction that writes a register alone
got : (s : State) (d v : ℕ) → aim step s ≡ other → StepCase s (ended (gets (own_registers s.machine) s.memory d v) s)
unfolding gets advanced ended
got s d v aims = did_move _ aims (length-set (own_registers s.machine).r d v) refl

-- whichever way a branch goes, no register is written
branch_length : (b : Bool) (file : Registers) (pc : ℕ) → length (cond b (advanced file) (jumped file pc)).r ≡ length file.r
unfolding advanced
branch_length true file pc = refl
branch_length false file pc = refl

-- each instruction, if the step aims at what the instruction does
performed : (i : Instruction) (s : State) → aim step s ≡ aim_of i (own_registers s.machine)
    → StepCase s (ended (perform i (rights s.machine) (own_registers s.machine) s.memory) s)
unfolding aim_of perform advanced ended
performed (Movi d k) s aims = got s d _ aims
performed (Movt d k) s aims = got s d _ aims
performed (Mov d n) s aims = got s d _ aims
performed (Ldr d n) s aims = allowed _ _ s (λ may. got s d _ aims)
performed (Str d n) s aims = allowed _ _ s (λ may. did_store _ _ aims may refl)
performed (Add d n) s aims = got s d _ aims
performed (Sub d n) s aims = got s d _ aims
performed (Addi d k) s aims = got s d _ aims
performed (Cmp d n) s aims = did_move _ aims refl refl
performed (Bne n) s aims =
    let own = own_registers s.machine in did_move _ aims (branch_length own.equal own (register own n)) refl
performed (Br n) s aims = did_move _ aims refl refl
performed Hvc s aims = did_call aims refl
performed Halt s aims = did_halt refl

-- each word
executed : (word : Option Instruction) (s : State) → aim step s ≡ aim_of_word word (own_registers s.machine)
    → StepCase s (ended (execute word (rights s.machine) (own_registers s.machine) s.memory) s)
unfolding aim_of_word execute ended
executed (Some i) s aims = performed i s aims
executed None s aims = did_fault refl

pub step_case : (s : State) → StepCase s (step_effect s)
unfolding step_effect guest_step aim
step_case s =
    allowed _ _ s (λ may. executed (decode_of (fetched (own_registers s.machine) s.memory)) s refl)
