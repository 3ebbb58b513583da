-- What the deeds ask: a handle's place, a transaction whose pages can be reached, and parties that are guests.
use Rattle.std.specs.Prelude.{◌<◌}
use Rattle.model.specs.declared.Handle.{Handle}
use Rattle.model.specs.declared.Deal.{Deal}
use Rattle.model.specs.declared.Machine.{Machine}
use Rattle.model.specs.Constants.{GUESTS, HANDLES}
use Rattle.parts.specs.Reached.{Reached}
use Rattle.model.specs.State.{transaction_at}

pub record Dealt (m : Machine) (h : Handle) (d : Deal) : Type 0 where
  pub place : h.0 < HANDLES
  pub reached : Reached (transaction_at m.transactions h)
  pub sender : d.sender.0 < GUESTS
  pub receiver : d.receiver.0 < GUESTS
