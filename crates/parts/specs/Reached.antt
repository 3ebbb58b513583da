-- A transaction whose pages can be reached: it has no more than there are places, and each is a page of the largest machine.
use Rattle.std.specs.Prelude.{ℕ, ◌≤◌, ◌<◌}
use Rattle.model.specs.declared.Transaction.{Transaction}
use Rattle.model.specs.Constants.{PAGES, PLACES}
use Rattle.model.specs.State.{page_at, count_of}

pub record Reached (t : Transaction) : Type 0 where
  pub few : count_of t ≤ PLACES
  pub below : (i : ℕ) → i < count_of t → (page_at t i).0 < PAGES
