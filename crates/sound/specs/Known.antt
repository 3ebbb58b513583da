-- What is known of a machine by the tests that come first: of its counts, and of what stands for a guest or a page.
use Rattle.std.specs.Prelude.{Bool}
use Rattle.isa.specs.Tests.{◌and◌}
use Rattle.model.specs.declared.Machine.{Machine}
use Rattle.model.specs.Sound.{counts_in_range, page_counts_in_range, mailboxes_below, owners_below, parties_below, pages_below}

abbrev pub Counts : Machine → Bool
Counts m = counts_in_range m.n m.m and page_counts_in_range m.transactions

abbrev pub Ranges : Machine → Bool
Ranges m =
    mailboxes_below m.n m.m m.mailboxes
    and owners_below m.n m.m m.records
    and parties_below m.n m.transactions
    and pages_below m.m m.transactions
