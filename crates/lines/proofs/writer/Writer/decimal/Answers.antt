-- The digits are as many as were counted, and there is room for the byte behind them.
use Rattle.std.proofs.Common.{arith}
use Rattle.lines.specs.Text.{decimal}
use Rattle.lines.proofs.Counting.{decimal_length, digits_length}
use Rattle.lines.proofs.Laying.{wrote_then}
use Rattle.lines.proofs.writer.Writer.decimal.Goals as goal

pub digits-requires-clause-count_in_bounds : goal.digits-requires-clause-count_in_bounds
digits-requires-clause-count_in_bounds c = omega (arith, c.places.ensures, decimal_length c.args.n)

pub text-requires : goal.text-requires
text-requires c =
    omega (arith, c.places.ensures, decimal_length c.args.n, digits_length 10 c.places.result c.args.n)

pub returns-clause-written : goal.returns-clause-written
unfolding decimal
returns-clause-written c = rw c.places.ensures at (wrote_then c.digits.ensures c.text.ensures)

pub returns-clause-place : goal.returns-clause-place
returns-clause-place c =
    omega (arith, c.places.ensures, decimal_length c.args.n, digits_length 10 c.places.result c.args.n)
