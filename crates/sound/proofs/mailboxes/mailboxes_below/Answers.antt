-- `sound::mailboxes::mailboxes_below` meets its contract: it asks of the mailbox of each guest what the definition does.
use Rattle.std.proofs.Common.{rules, arith, length, ltb, ◌≡◌}
use Rattle.model.specs.Constants.{GUESTS}
use Rattle.std.specs.Prelude.{ℕ, Bool}
use borrow.Author.Tests.{tests}
use Rattle.parts.proofs.Loops.{all_taken}
use Rattle.isa.specs.Tests.{◌and◌}
use Rattle.model.specs.declared.Mailbox.{Mailbox}
use Rattle.model.specs.State.{mailbox_at}
use Rattle.model.specs.Sound.{mailboxes_below}
use Rattle.sound.proofs.mailboxes.mailboxes_below.Goals as goal

abbrev below : ℕ → Mailbox → Bool
below m box = ltb box.tx.0 m and ltb box.rx.0 m

pub returns : goal.returns
unfolding mailboxes_below mailbox_at ◌and◌
returns c =
    let eight : length c.args.boxes.now ≡ GUESTS = search rules in
    all_taken c.args.n (below c.args.m) _ c.args.boxes.now _ c.all.ensures.ran (cc) (cc) (λ x b q k. search (rules, tests)) (omega arith)
