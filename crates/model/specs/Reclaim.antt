-- The call Reclaim: the sender, while nothing is retrieved.
use Rattle.std.specs.Prelude.{false}
use Rattle.model.specs.State.{State}
use Rattle.model.specs.Row.{sends}
use Rattle.model.specs.Deeds.{reclaimed}
use Rattle.model.specs.HandleCall.{handle_effect}

unfoldable pub reclaim_effect : State → State
reclaim_effect s = handle_effect sends false reclaimed s
