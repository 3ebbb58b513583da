-- `sound::blank::spare_blank` meets its contract: it asks of each place from the count on what the definition does.
use Rattle.std.proofs.Common.{rules, eqb}
use borrow.Author.Tests.{tests}
use Rattle.parts.proofs.Loops.{all_skipped}
use Rattle.model.specs.State.{page_at, same_page, count_of}
use Rattle.sound.proofs.blank.spare_blank.Goals as goal

pub returns : goal.returns
unfolding page_at same_page
returns c = all_skipped (count_of c.args.t.now) (λ p. eqb p.0 0) _ c.args.t.now.pages _ c.all.ensures.ran (cc) (cc) (λ x b q k. search (rules, tests)) (search rules)
