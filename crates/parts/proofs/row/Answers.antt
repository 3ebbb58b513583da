use Rattle.std.proofs.Common.{◌∙◌}
use Rattle.parts.proofs.Rows.{row_handed, row_shared}
use Rattle.parts.proofs.row.Goals.{else-shared, then-shared}
use Rattle.parts.proofs.row.Goals as goal

pub returns : goal.returns
returns c = elim c.if-shared.branch [
  | then-shared w ↦
      row_shared c.args.d c.holders-held.ensures c.shares-shared.ensures w.if-shared.true (w.result-is ∙ w.with.ensures)
  | else-shared w ↦ row_handed c.args.d c.holders-held.ensures c.shares-shared.ensures w.if-shared.false w.result-is
]
