-- `sound::blank::pages_blank` meets its contract: it asks of each page from m on what the definition does.
use Rattle.std.specs.Prelude.{None}
use Rattle.std.proofs.Common.{rules}
use borrow.Author.Tests.{tests}
use Rattle.parts.proofs.Loops.{all_skipped}
use Rattle.model.specs.State.{record_at}
use Rattle.model.specs.Row.{same_record, free_row}
use Rattle.model.specs.Sound.{pages_blank}
use Rattle.sound.proofs.blank.pages_blank.Goals as goal

pub returns : goal.returns
unfolding pages_blank record_at
returns c = all_skipped c.args.m (λ x. same_record x (free_row None)) _ c.args.records.now _ c.all.ensures.ran (cc) (cc) (λ x b q k. search (rules, tests)) (search rules)
