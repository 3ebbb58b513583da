-- The greatest power of ten that the number holds says how many digits it has.
use Rattle.lines.proofs.Counting.{places_by_power}
use Rattle.lines.proofs.numbers.places.Goals as goal

pub returns : goal.returns
returns c =
    let power = c.checked_ilog10.ensures in
    rw c.unwrap_or.ensures (places_by_power c.args.n _ power.none power.power_le power.next_power_gt power.bound)
