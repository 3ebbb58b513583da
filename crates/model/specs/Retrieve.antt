-- The call Retrieve: the receiver, before it has retrieved.
use Rattle.std.specs.Prelude.{false}
use Rattle.model.specs.State.{State}
use Rattle.model.specs.Row.{receives}
use Rattle.model.specs.Deeds.{retrieved}
use Rattle.model.specs.HandleCall.{handle_effect}

unfoldable pub retrieve_effect : State → State
retrieve_effect s = handle_effect receives false retrieved s
