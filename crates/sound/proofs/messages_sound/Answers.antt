-- `sound::messages_sound` meets its contract: each clause is what its function answers.
use Rattle.isa.specs.Tests.{◌and◌}
use Rattle.sound.proofs.messages_sound.Goals as goal

pub returns : goal.returns
unfolding ◌and◌
returns c = rw (c.lengths_in_range.ensures, c.senders_below.ensures, c.no_own_sender.ensures)
