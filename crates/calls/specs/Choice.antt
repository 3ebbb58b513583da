-- The choice by R0 in two: a number names a call, and a call has its effect.
use Rattle.std.specs.Prelude.{ℕ, [], ◌∷◌, Result, Ok, Err}
use Rattle.model.specs.declared.Kind.TheVariants.{Donate, Lend, Share}
use Rattle.model.specs.Constants.{RUN, YIELD, POLL, WAIT, SEND, DONATE, LEND, SHARE, RETRIEVE, RELINQUISH, RECLAIM}
use Rattle.model.specs.State.{State}
use Rattle.model.specs.Reply.{refused, answer}
use Rattle.model.specs.Run.{run_effect}
use Rattle.model.specs.Yield.{yield_effect}
use Rattle.model.specs.Poll.{poll_effect}
use Rattle.model.specs.Wait.{wait_effect}
use Rattle.model.specs.Send.{send_effect}
use Rattle.model.specs.Sending.{sending_effect}
use Rattle.model.specs.Retrieve.{retrieve_effect}
use Rattle.model.specs.Relinquish.{relinquish_effect}
use Rattle.model.specs.Reclaim.{reclaim_effect}
use Rattle.model.specs.Call.{on, chosen}
use Rattle.parts.specs.declared.refusal.Refusal.{Refusal}
use Rattle.parts.specs.declared.refusal.Refusal.TheVariants.{NotSupported}
use Rattle.parts.specs.Refusal.{code_of}
use Rattle.calls.specs.declared.CallName.{CallName}
use Rattle.calls.specs.declared.CallName.TheVariants as call

-- the call of this number, if it is one's
unfoldable pub named : ℕ → Result CallName Refusal
named number =
    chosen
    (on RUN (Ok call.Run)
    ∷ on YIELD (Ok call.Yield)
    ∷ on POLL (Ok call.Poll)
    ∷ on WAIT (Ok call.Wait)
    ∷ on SEND (Ok call.Send)
    ∷ on DONATE (Ok (call.Transfer Donate))
    ∷ on LEND (Ok (call.Transfer Lend))
    ∷ on SHARE (Ok (call.Transfer Share))
    ∷ on RETRIEVE (Ok call.Retrieve)
    ∷ on RELINQUISH (Ok call.Relinquish)
    ∷ on RECLAIM (Ok call.Reclaim)
    ∷ [])
    (Err NotSupported)
    number

unfoldable pub effect_of : CallName → State → State
effect_of call.Run = run_effect
effect_of call.Yield = yield_effect
effect_of call.Poll = poll_effect
effect_of call.Wait = wait_effect
effect_of call.Send = send_effect
effect_of (call.Transfer kind) = sending_effect kind
effect_of call.Retrieve = retrieve_effect
effect_of call.Relinquish = relinquish_effect
effect_of call.Reclaim = reclaim_effect

unfoldable pub refused_by : Refusal → State → State
refused_by refusal s = answer (refused (code_of refusal)) s s

-- what is done under a name, or where there is none
unfoldable pub done_by : Result CallName Refusal → State → State
done_by (Ok called) = effect_of called
done_by (Err refusal) = refused_by refusal
