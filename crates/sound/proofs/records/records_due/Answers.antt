-- `sound::records::records_due` meets its contract: it asks of each record and the one due whether they are the same.
use Rattle.std.proofs.Common.{rules, arith, length, ◌∙◌, ◌≡◌}
use Rattle.model.specs.Constants.{PAGES}
use borrow.Author.Tests.{tests}
use Rattle.std.proofs.lemmas.Iterator.{YieldsList-from_slice, YieldsList-from_zip, YieldsList-from_take}
use Rattle.std.proofs.lemmas.Iterator.Search.{all_from_yields_List}
use Rattle.model.specs.State.{record_at}
use Rattle.sound.proofs.Dues.{all_as_laid, same}
use Rattle.parts.proofs.Loops.{every_taken_zip}
use Rattle.sound.proofs.records.records_due.Goals as goal

pub returns : goal.returns
unfolding record_at
returns c =
    let records = c.args.records.now in
    let dues = c.due_records-dues.result in
    let sixty_four : length records ≡ PAGES = search rules in
    let as_many : length dues ≡ PAGES = search rules in
    all_from_yields_List same c.all.new.self _ _ c.all.ensures.ran
    (YieldsList-from_take c.args.m (YieldsList-from_zip (YieldsList-from_slice records (cc)) (YieldsList-from_slice dues (cc))) (cc))
    (λ x b q k. search (rules, tests))
    ∙ every_taken_zip _ _ same records dues c.args.m (omega (arith, c.requires.sixty_four_pages)) (omega arith)
    ∙ all_as_laid _ _ _ _ _ _ c.due_records-dues.ensures
