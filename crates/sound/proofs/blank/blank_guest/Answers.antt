-- `sound::blank::blank_guest` meets its contract, by that of `registers_zero`; the other tests are the definition's own.
use Rattle.isa.specs.Tests.{◌and◌}
use Rattle.model.specs.Sound.{blank_guest}
use Rattle.model.specs.State.{same_page}
use Rattle.sound.proofs.Each.{nothing_waits}
use Rattle.sound.proofs.blank.blank_guest.Goals as goal

pub returns : goal.returns
unfolding blank_guest same_page ◌and◌
returns c = rw (c.registers_zero.ensures, nothing_waits _ c.is_none.ensures)
