-- `sound::uses_differ` meets its contract: each clause is what its function answers.
use Rattle.isa.specs.Tests.{◌and◌}
use Rattle.sound.proofs.Whole.{few_guests, mailboxes_in_reach, page_counts_known, pages_in_reach}
use Rattle.sound.proofs.uses_differ.Goals as goal

pub mailboxes_differ-requires : goal.mailboxes_differ-requires
mailboxes_differ-requires c =
    let known = c.args.ranged.now in
    (few_guests known.machine.now known.counts, mailboxes_in_reach known.machine.now known.counts known.ranges)

pub pages_no_mailbox-requires : goal.pages_no_mailbox-requires
pages_no_mailbox-requires c =
    let known = c.args.ranged.now in
    let m = known.machine.now in (
      few_guests m known.counts,
      mailboxes_in_reach m known.counts known.ranges,
      page_counts_known m known.counts,
      pages_in_reach m known.counts known.ranges,
    )

pub no_page_twice-requires : goal.no_page_twice-requires
no_page_twice-requires c =
    let known = c.args.ranged.now in
    (page_counts_known known.machine.now known.counts, pages_in_reach known.machine.now known.counts known.ranges)

pub returns : goal.returns
unfolding ◌and◌
returns c = rw (c.mailboxes_differ.ensures, c.pages_no_mailbox.ensures, c.no_page_twice.ensures)
