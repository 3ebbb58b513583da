-- The words and the offset.
use Rattle.std.proofs.Common.{arith, rules}
use Rattle.lines.proofs.Counting.{decimal_short}
use Rattle.lines.proofs.Written.{broken_written}
use Rattle.lines.proofs.put_broken.Goals as goal

pub decimal-requires : goal.decimal-requires
decimal-requires c = omega (arith, decimal_short c.args.offset 19 (omega arith))

pub returns-clause-laid : goal.returns-clause-laid
returns-clause-laid c =
    let written = broken_written c.args.offset c.text.ensures c.decimal.ensures.written in search rules

pub returns-clause-upper_bound : goal.returns-clause-upper_bound
returns-clause-upper_bound c = omega (arith, decimal_short c.args.offset 19 (omega arith))
