-- The word, the steps and the mode, with its line's end.
use Rattle.std.proofs.Common.{arith, rules}
use Rattle.lines.proofs.Counting.{decimal_short}
use Rattle.lines.proofs.Written.{end_written}
use Rattle.lines.proofs.put_end.Goals as goal

pub decimal-requires : goal.decimal-requires
decimal-requires c = omega (arith, decimal_short c.args.steps 9 (omega arith))

pub mode-requires : goal.mode-requires
mode-requires c = omega (arith, decimal_short c.args.steps 9 (omega arith))

pub returns-clause-laid : goal.returns-clause-laid
returns-clause-laid c =
    let written =
    end_written c.args.steps c.args.mode c.text.ensures c.decimal.ensures.written c.mode.ensures.written
    in
    search rules

pub returns-clause-upper_bound : goal.returns-clause-upper_bound
returns-clause-upper_bound c = omega (arith, decimal_short c.args.steps 9 (omega arith))
