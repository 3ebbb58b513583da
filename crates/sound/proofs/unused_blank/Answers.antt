-- `sound::unused_blank` meets its contract: each clause is what its function answers.
use Rattle.isa.specs.Tests.{◌and◌}
use Rattle.sound.proofs.unused_blank.Goals as goal

pub returns : goal.returns
unfolding ◌and◌
returns c = rw (c.guests_blank.ensures, c.pages_blank.ensures, c.places_blank.ensures)
