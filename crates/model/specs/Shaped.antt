-- What the types of the code give and values of the definitions do not have by themselves: the lengths of the arrays.
use Rattle.std.specs.Prelude.{ℕ, ◌<◌, ◌≡◌, length}
use Rattle.model.specs.declared.Machine.{Machine}
use Rattle.model.specs.Constants.{GUESTS, PAGES, HANDLES, PLACES}
use Rattle.model.specs.State.{vm, registers_at, transaction_at, handle}

pub record Shaped (m : Machine) : Type 0 where
  pub eight_files : length m.registers ≡ GUESTS
  pub eight_registers : (g : ℕ) → g < GUESTS → length (registers_at m.registers (vm g)).r ≡ 8
  pub eight_mailboxes : length m.mailboxes ≡ GUESTS
  pub eight_inboxes : length m.inboxes ≡ GUESTS
  pub sixty_four_records : length m.records ≡ PAGES
  pub sixteen_transactions : length m.transactions ≡ HANDLES
  pub eight_places : (h : ℕ) → h < HANDLES → length (transaction_at m.transactions (handle h)).pages ≡ PLACES
