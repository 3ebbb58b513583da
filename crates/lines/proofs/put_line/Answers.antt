-- Five numbers, each with a space or the line's end behind it: step and caller take 15 bytes at most, each word 9.
use Rattle.std.proofs.Common.{arith, rules}
use Rattle.lines.proofs.Counting.{line_short}
use Rattle.lines.proofs.Written.{line_written}
use Rattle.lines.proofs.put_line.Goals as goal

pub decimal-requires : goal.decimal-requires
decimal-requires c = omega (arith, line_short c.args.step c.args.caller.0 (omega arith) (omega arith))

pub decimal-requires-2 : goal.decimal-requires-2
decimal-requires-2 c = omega (arith, line_short c.args.step c.args.caller.0 (omega arith) (omega arith))

pub hex-requires : goal.hex-requires
hex-requires c = omega (arith, line_short c.args.step c.args.caller.0 (omega arith) (omega arith))

pub hex-requires-2 : goal.hex-requires-2
hex-requires-2 c = omega (arith, line_short c.args.step c.args.caller.0 (omega arith) (omega arith))

pub hex-requires-3 : goal.hex-requires-3
hex-requires-3 c = omega (arith, line_short c.args.step c.args.caller.0 (omega arith) (omega arith))

pub returns-clause-laid : goal.returns-clause-laid
returns-clause-laid c =
    let written =
    line_written c.args.step c.args.caller c.args.before c.args.after c.args.second
    c.decimal.ensures.written
    c.decimal-2.ensures.written
    c.hex.ensures.written
    c.hex-2.ensures.written
    c.hex-3.ensures.written
    in
    search rules

pub returns-clause-upper_bound : goal.returns-clause-upper_bound
returns-clause-upper_bound c =
    omega (arith, line_short c.args.step c.args.caller.0 (omega arith) (omega arith))
