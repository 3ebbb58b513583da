-- `parts::same_record` meets its contract: what the derived comparison computes is the definition's test.
use Rattle.model.proofs.Same.{compared_records}
use Rattle.parts.proofs.same_record.Goals as goal

pub returns : goal.returns
returns c = rw c.eq.ensures (compared_records c.args.a c.args.b)
