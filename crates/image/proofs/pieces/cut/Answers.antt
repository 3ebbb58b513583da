-- The kind is not among those given, or all is well.
use Rattle.std.proofs.Common.{arith, length, ◌∙◌, ◌+◌, ◌≤◌}
use Rattle.std.proofs.lemmas.Grind.{common_steps}
use Rattle.isa.specs.Tests.{◌and◌}
use Rattle.image.specs.Pieces.{record_from, end_of, cut}
use Rattle.image.proofs.Cutting.{among_any}
use Rattle.image.proofs.pieces.cut.Goals as goal

pub returns-then-not-contains : goal.returns-then-not-contains
unfolding record_from end_of cut ◌and◌
returns-then-not-contains c =
    grind (arith, common_steps, c.contains.ensures.value ∙ among_any c.args.kinds.now c.number-kind.result)

pub returns : goal.returns
unfolding record_from end_of cut ◌and◌
returns c =
    let fits : c.args.at + 4 + c.number-size.result ≤ length c.args.bytes.now = omega arith in
    grind (arith, common_steps, fits, c.contains.ensures.value ∙ among_any c.args.kinds.now c.number-kind.result)
