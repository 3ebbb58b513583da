-- The shape of the code's arrays, as a test: for machines that are computed.
use mathlib.Core.Path.{◌≡◌}
use mathlib.Core.Bool.{Bool, true}
use lib.ListN.{length}
use lib.Dec.{eqb}
use Rattle.isa.specs.Tests.{◌and◌}
use Rattle.model.specs.declared.Machine.{Machine}
use Rattle.model.specs.Constants.{GUESTS, PAGES, HANDLES, PLACES}
use Rattle.model.specs.Tests.{every}
use Rattle.model.specs.State.{vm, handle, registers_at, transaction_at}
use Rattle.model.specs.Shaped.{Shaped}
use Rattle.model.proofs.Links.{Link, eqb_link, ◌also◌, ◌make◌, every_link}

unfoldable pub is_shaped : Machine → Bool
is_shaped m =
    eqb (length m.registers) GUESTS
    and every GUESTS (λ g. eqb (length (registers_at m.registers (vm g)).r) 8)
    and eqb (length m.mailboxes) GUESTS
    and eqb (length m.inboxes) GUESTS
    and eqb (length m.records) PAGES
    and eqb (length m.transactions) HANDLES
    and every HANDLES (λ h. eqb (length (transaction_at m.transactions (handle h)).pages) PLACES)

is_shaped_link : (m : Machine) → Link (is_shaped m) (Shaped m)
unfolding is_shaped
is_shaped_link m =
    (λ c. c.eight_files, eqb_link)
    also (λ c. c.eight_registers, every_link (λ g. eqb_link))
    also (λ c. c.eight_mailboxes, eqb_link)
    also (λ c. c.eight_inboxes, eqb_link)
    also (λ c. c.sixty_four_records, eqb_link)
    also (λ c. c.sixteen_transactions, eqb_link)
    also (λ c. c.eight_places, every_link (λ h. eqb_link))
    make (λ c. search)

pub shaped_holds : (m : Machine) → is_shaped m ≡ true → Shaped m
shaped_holds m = (is_shaped_link m).holds
