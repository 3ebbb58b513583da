-- Eight digits, and there is room for the byte behind them.
use Rattle.std.proofs.Common.{arith}
use Rattle.lines.specs.Text.{hex8}
use Rattle.lines.proofs.Counting.{digits_length}
use Rattle.lines.proofs.Laying.{wrote_then}
use Rattle.lines.proofs.writer.Writer.hex.Goals as goal

pub text-requires : goal.text-requires
text-requires c = omega (arith, digits_length 16 8 c.args.n)

pub returns-clause-written : goal.returns-clause-written
unfolding hex8
returns-clause-written c = wrote_then c.digits.ensures c.text.ensures

pub returns-clause-place : goal.returns-clause-place
returns-clause-place c = omega (arith, digits_length 16 8 c.args.n)
