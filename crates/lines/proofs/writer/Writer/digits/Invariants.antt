-- The loop that writes: the first i digits of what is left, laid over what is there, are the whole. The place and the buffer stay.
use Rattle.std.proofs.Common.{◌≡◌}
use Rattle.lines.proofs.Counting.{Spelt}
use Rattle.lines.proofs.writer.Writer.digits.Given as goal

abbrev pub invariant-loop-i : goal.invariant-loop-i
invariant-loop-i l =
    (l.self.at ≡ l.fn.self.at)
    × (l.self.out.ghost_name ≡ l.fn.self.out.ghost_name)
    × Spelt l.fn.self.out.now l.fn.self.at l.base l.count l.n l.self.out.now l.i l.rest
