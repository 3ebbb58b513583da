-- The text is copied over a part of the buffer.
use Rattle.std.proofs.Common.{arith, refl}
use Rattle.lines.proofs.Laying.{text_laid}
use Rattle.lines.proofs.writer.Writer.text.Goals as goal

pub returns : goal.returns
returns c = record { same_buffer = refl; laid = text_laid _ _ _ (omega arith) c.copy_from_slice.ensures.after refl }
