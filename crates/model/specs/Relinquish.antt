-- The call Relinquish: the receiver, once it has retrieved.
use Rattle.std.specs.Prelude.{true}
use Rattle.model.specs.State.{State}
use Rattle.model.specs.Row.{receives}
use Rattle.model.specs.Deeds.{relinquished}
use Rattle.model.specs.HandleCall.{handle_effect}

unfoldable pub relinquish_effect : State → State
relinquish_effect s = handle_effect receives true relinquished s
