-- Where the loop goes on and ends.
use Rattle.std.proofs.Common.{arith}
use Rattle.lines.proofs.Counting.{spelt_more, spelt_whole}
use Rattle.lines.proofs.writer.Writer.digits.Goals as goal

pub loop-i-preserved : goal.loop-i-preserved
loop-i-preserved c =
    let kept = c.loop-i.invariant in
    (kept.0, kept.1, rw kept.0 (spelt_more kept.2 (omega arith) c.glyph.ensures))

pub returns : goal.returns
returns c =
    let kept = c.loop-i.invariant in
    record { same_buffer = kept.1; laid = rw kept.0 (spelt_whole kept.2 (omega arith)) }
