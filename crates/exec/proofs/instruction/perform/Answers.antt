-- Each arm does what the instruction of its code does, and the last arm is left with the codes that mean halt.
use Rattle.std.proofs.Common.{ℕ, arith, refl}
use Rattle.isa.specs.declared.Instruction.TheVariants.{Movi, Movt, Mov, Add, Sub, Addi}
use Rattle.isa.specs.Opcodes.{opcodes, opcode_at}
use Rattle.model.specs.State.{plus}
use Rattle.model.specs.Execute.{perform, topped, minus}
use Rattle.exec.specs.Turn.{ends, performs}
use Rattle.exec.proofs.Moves.{gets_done, one_read, two_read, none_from, halts}
use Rattle.exec.proofs.instruction.perform.Goals as goal

pub returns-in-1 : goal.returns-in-1
unfolding perform opcode_at opcodes
returns-in-1 c = rw c.in-1.is (gets_done _ c.args.file.now _ (Movi c.args.f.d c.args.f.k) _ refl refl c.gets.ensures)

pub returns-in-2 : goal.returns-in-2
unfolding perform opcode_at opcodes
returns-in-2 c =
    let read = one_read (λ (a : ℕ). topped a c.args.f.k) c.topped.ensures c.get.ensures in
    rw c.in-2.is (gets_done _ c.args.file.now _ (Movt c.args.f.d c.args.f.k) _ refl read c.gets-in-2.ensures)

pub returns-in-3 : goal.returns-in-3
unfolding perform opcode_at opcodes
returns-in-3 c = rw c.in-3.is (gets_done _ c.args.file.now _ (Mov c.args.f.d c.args.f.s) _ refl c.get-in-3.ensures c.gets-in-3.ensures)

pub returns-in-4 : goal.returns-in-4
unfolding opcode_at opcodes
returns-in-4 c = rw c.in-4.is c.load.ensures

pub returns-in-5 : goal.returns-in-5
unfolding opcode_at opcodes
returns-in-5 c = rw c.in-5.is c.store.ensures

pub returns-in-6 : goal.returns-in-6
unfolding perform opcode_at opcodes
returns-in-6 c =
    let read = two_read plus c.plus.ensures c.get-in-6.ensures c.get-in-6-2.ensures in
    rw c.in-6.is (gets_done _ c.args.file.now _ (Add c.args.f.d c.args.f.s) _ refl read c.gets-in-6.ensures)

pub returns-in-7 : goal.returns-in-7
unfolding perform opcode_at opcodes
returns-in-7 c =
    let read = two_read minus c.minus.ensures c.get-in-7.ensures c.get-in-7-2.ensures in
    rw c.in-7.is (gets_done _ c.args.file.now _ (Sub c.args.f.d c.args.f.s) _ refl read c.gets-in-7.ensures)

pub returns-in-8 : goal.returns-in-8
unfolding perform opcode_at opcodes
returns-in-8 c =
    let read = one_read (λ (a : ℕ). plus a c.args.f.k) c.plus-in-8.ensures c.get-in-8.ensures in
    rw c.in-8.is (gets_done _ c.args.file.now _ (Addi c.args.f.d c.args.f.k) _ refl read c.gets-in-8.ensures)

pub returns-in-9 : goal.returns-in-9
unfolding opcode_at opcodes
returns-in-9 c = rw c.in-9.is (c.compares.ensures _ _)

pub returns-in-10 : goal.returns-in-10
unfolding opcode_at opcodes
returns-in-10 c = rw c.in-10.is (c.branch_unless.ensures _ _)

pub returns-in-11 : goal.returns-in-11
unfolding perform performs ends opcode_at opcodes
returns-in-11 c = rw (c.in-11.is, c.branch-file.ensures.0, c.branch-file.ensures.1)

pub returns-in-12 : goal.returns-in-12
unfolding perform performs ends opcode_at opcodes
returns-in-12 c = rw c.in-12.is

pub returns-in_default : goal.returns-in_default
unfolding perform performs ends
returns-in_default c = rw (halts c.args.f (none_from 12 _ (λ h. omega arith)))
