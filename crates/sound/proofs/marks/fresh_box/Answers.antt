-- `sound::marks::fresh_box` meets its contract: the three tests are the definition's.
use Rattle.std.proofs.Common.{refl}
use Rattle.isa.specs.Tests.{◌and◌}
use Rattle.model.specs.State.{same_page}
use Rattle.sound.specs.Marks.{marked}
use Rattle.sound.proofs.marks.fresh_box.Goals as goal

pub returns : goal.returns
unfolding ◌and◌ same_page marked
returns c = refl
