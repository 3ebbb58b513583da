-- `sound::messages::no_own_sender` meets its contract: it asks of the message of each guest, by the guest's number, what the definition does.
use Rattle.std.proofs.Common.{refl, rules, ◌∙◌, arith}
use borrow.Author.Tests.{tests}
use Rattle.std.proofs.lemmas.Iterator.{YieldsList-from_slice, YieldsList-from_range, YieldsList-from_zip}
use Rattle.std.proofs.lemmas.Iterator.Search.{all_from_yields_List}
use Rattle.model.specs.State.{inbox_at}
use Rattle.model.specs.Sound.{each_message, if_full, no_own_sender}
use Rattle.parts.proofs.Loops.{every_numbered}
use Rattle.sound.proofs.Each.{from_another}
use Rattle.sound.proofs.messages.no_own_sender.Goals as goal

pub returns : goal.returns
unfolding no_own_sender each_message inbox_at if_full
returns c =
    all_from_yields_List from_another c.all.new.self _ _ c.all.ensures.ran
    (YieldsList-from_zip (YieldsList-from_range 0 c.args.n c.args.n c.zip.ensures.first (omega arith)) (YieldsList-from_slice c.args.inboxes.now (cc)))
    (λ x b q k. (search rules, search (rules, tests)))
    ∙ every_numbered _ from_another c.args.inboxes.now c.args.n (λ k. refl)
