-- `sound::blank::guests_blank` meets its contract: it asks of each guest from n on what the definition does, over the three lists side by side.
use Rattle.std.proofs.Common.{rules, ◌∙◌}
use borrow.Author.Tests.{tests}
use Rattle.std.proofs.lemmas.Iterator.{YieldsList-from_slice, YieldsList-from_zip}
use Rattle.std.proofs.lemmas.Iterator.Adapters.{YieldsList-from_skip}
use Rattle.std.proofs.lemmas.Iterator.Search.{all_from_yields_List}
use Rattle.model.specs.State.{registers_at, mailbox_at, inbox_at}
use Rattle.model.specs.Sound.{guests_blank}
use Rattle.parts.proofs.Loops.{every_dropped_three}
use Rattle.sound.proofs.Each.{blank}
use Rattle.sound.proofs.blank.guests_blank.Goals as goal

pub returns : goal.returns
unfolding guests_blank registers_at mailbox_at inbox_at
returns c =
    let files = c.args.files.now in
    let boxes = c.args.boxes.now in
    let inboxes = c.args.inboxes.now in
    all_from_yields_List blank c.all.new.self _ _ c.all.ensures.ran
    (YieldsList-from_skip c.args.n (YieldsList-from_zip (YieldsList-from_zip (YieldsList-from_slice files (cc)) (YieldsList-from_slice boxes (cc))) (YieldsList-from_slice inboxes (cc))) (cc))
    (λ x b q k. search (rules, tests))
    ∙ every_dropped_three _ _ _ blank files boxes inboxes c.args.n (search rules) (search rules) (search rules)
