-- `sound::places::pages_no_mailbox` meets its contract: it asks of the pages of each transaction that none has a mark, and the marked pages are the mailboxes'.
use Rattle.std.proofs.Common.{rules, ◌∙◌, not, sym}
use Rattle.std.proofs.lemmas.Iterator.{YieldsList-from_slice}
use Rattle.std.proofs.lemmas.Iterator.Adapters.{serves_from_places}
use borrow.Author.Tests.{tests}
use Rattle.sound.specs.Marks.{marked}
use Rattle.sound.proofs.Each.{all_pages}
use Rattle.sound.proofs.Asked.{page_below, reached_listed}
use Rattle.sound.proofs.Marked.{no_mailbox_fresh}
use Rattle.sound.proofs.places.pages_no_mailbox.Goals as goal

pub all-requires-clause-callable : goal.all-requires-clause-callable
all-requires-clause-callable c =
    serves_from_places (YieldsList-from_slice c.args.transactions.now (cc)) (λ x q k. search rules) (λ x k b at. let fits = reached_listed _ c.requires.2 c.requires.3 (search rules) x.now k b at in search rules)

pub returns : goal.returns
returns c =
    all_pages (λ p. not (marked c.box_marks-seen.result p)) _ c.all.ensures.ran (cc) (λ x b q k. search (rules, tests)) (search rules)
    ∙ sym (no_mailbox_fresh _ _ _ (page_below _ _ c.requires.3) c.box_marks-seen.ensures)
