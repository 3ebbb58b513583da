-- `sound::places::all_below` meets its contract: it asks of each page what the definition does.
use Rattle.std.proofs.Common.{rules, ltb}
use borrow.Author.Tests.{tests}
use Rattle.sound.proofs.Each.{all_held}
use Rattle.sound.proofs.places.all_below.Goals as goal

pub returns : goal.returns
returns c = all_held (λ p. ltb p.0 c.args.m) c.args.t.now _ c.held.ensures c.all.ensures.ran (cc) (λ x b q k. search (rules, tests))
