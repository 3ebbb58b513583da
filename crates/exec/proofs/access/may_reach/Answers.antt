-- An address inside memory has its page's bit, and any other has none.
use Rattle.std.proofs.Common.{le-ltb}
use Rattle.exec.proofs.Reach.{may_inside, may_outside}
use Rattle.exec.specs.Maps.{bit_at}
use Rattle.exec.proofs.access.may_reach.Goals as goal

pub returns-then-x-words : goal.returns-then-x-words
unfolding bit_at
returns-then-x-words c = may_inside _ _ _ c.if-x-words.true

pub returns-else-x-words : goal.returns-else-x-words
returns-else-x-words c = rw (le-ltb _ _ c.if-x-words.false) (may_outside _ _ _ c.if-x-words.false)
