use Rattle.std.proofs.Common.{arith, sym, ◌<◌, ◌∙◌}
use Rattle.parts.proofs.Sets.{with_fits}
use Rattle.parts.proofs.with.Goals as goal

pub overflow_add-result : goal.overflow_add-result
overflow_add-result c =
    let byte : c.args.set.0 < 256 = omega arith in
    let out = sym c.has.ensures ∙ c.if-has.false in
    rw c.only.ensures (record { fits = with_fits c.args.g c.args.set c.requires byte out })
