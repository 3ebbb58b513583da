use Rattle.std.proofs.Common.{arith}
use Rattle.creamtally.proofs.Answers.{check_done, check_unsound, memory_wrong}
use Rattle.creamtally.proofs.check.Goals as goal

pub returns-then-mem-machine : goal.returns-then-mem-machine
returns-then-mem-machine c = memory_wrong c.args.machine c.args.mem.now c.if-mem-machine.true

pub returns-then-not-is_sound : goal.returns-then-not-is_sound
returns-then-not-is_sound c =
    check_unsound c.args.machine c.args.mem.now (omega arith) c.is_sound.ensures c.if-not-is_sound.true

pub returns : goal.returns
returns c = check_done c.args.machine c.args.mem.now c.if-mem-machine.false c.is_sound.ensures c.if-not-is_sound.false
