-- `sound::owners::owners_below` meets its contract: it asks of the owner of each page what the definition does.
use Rattle.std.proofs.Common.{rules, refl, ltb}
use borrow.Author.Tests.{tests}
use Rattle.parts.proofs.Loops.{all_among}
use Rattle.model.specs.State.{record_at}
use Rattle.model.specs.Sound.{if_owned, owners_below}
use Rattle.sound.proofs.owners.owners_below.Goals as goal

pub returns : goal.returns
unfolding owners_below record_at if_owned
returns c = all_among c.args.m (λ x. if_owned x.owner (λ g. ltb g.0 c.args.n)) _ c.args.records.now _ c.all.ensures.ran (cc) (cc) (λ x b q k. search (rules, tests)) refl
