-- Sets of guests: bit g of the number is set if guest g is in the set.
use Rattle.std.specs.Prelude.{◌+◌, ◌/◌, ◌%◌, ◌^◌, Bool, cond, eqb}
use Rattle.model.specs.declared.VmId.{VmId}
use Rattle.model.specs.declared.VmSet.{VmSet}

unfoldable pub has : VmId → VmSet → Bool
has g set = eqb (set.0 / 2 ^ g.0 % 2) 1

abbrev pub none : VmSet
none = record { 0 = 0 }

unfoldable pub only : VmId → VmSet
only g = record { 0 = 2 ^ g.0 }

unfoldable pub with : VmId → VmSet → VmSet
with g set = record { 0 = cond (has g set) set.0 (set.0 + 2 ^ g.0) }

unfoldable pub same_set : VmSet → VmSet → Bool
same_set a b = eqb a.0 b.0
