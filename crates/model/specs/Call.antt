-- The call that a guest makes: R0 chooses it.
use Rattle.std.specs.Prelude.{ℕ, true, false, List, [], ◌∷◌, eqb}
use Rattle.model.specs.declared.Kind.TheVariants.{Donate, Lend, Share}
use Rattle.model.specs.Constants.{RUN, YIELD, POLL, WAIT, SEND, DONATE, LEND, SHARE, RETRIEVE, RELINQUISH, RECLAIM, NOT_SUPPORTED}
use Rattle.model.specs.State.{State, argument}
use Rattle.model.specs.Reply.{refused, answer}
use Rattle.model.specs.Run.{run_effect}
use Rattle.model.specs.Yield.{yield_effect}
use Rattle.model.specs.Poll.{poll_effect}
use Rattle.model.specs.Wait.{wait_effect}
use Rattle.model.specs.Send.{send_effect}
use Rattle.model.specs.Sending.{sending_effect}
use Rattle.model.specs.Retrieve.{retrieve_effect}
use Rattle.model.specs.Relinquish.{relinquish_effect}
use Rattle.model.specs.Reclaim.{reclaim_effect}

-- a choice by number: the number that chooses it, and what is chosen
pub record Choice (A : Type 0) : Type 0 where
  pub number : ℕ
  pub value : A

abbrev pub on : {A : Type 0} → ℕ → A → Choice A
on number value = record { number = number; value = value }

-- the value with this number, if it is one of the list
unfoldable pub chosen : {A : Type 0} → List (Choice A) → A → ℕ → A
chosen [] otherwise number = otherwise
chosen (c ∷ rest) otherwise number = elim (eqb number c.number) [ true ↦ c.value | false ↦ chosen rest otherwise number ]

abbrev pub calls : List (Choice (State → State))
calls =
    on RUN run_effect
    ∷ on YIELD yield_effect
    ∷ on POLL poll_effect
    ∷ on WAIT wait_effect
    ∷ on SEND send_effect
    ∷ on DONATE (sending_effect Donate)
    ∷ on LEND (sending_effect Lend)
    ∷ on SHARE (sending_effect Share)
    ∷ on RETRIEVE retrieve_effect
    ∷ on RELINQUISH relinquish_effect
    ∷ on RECLAIM reclaim_effect
    ∷ []

unfoldable pub not_supported : State → State
not_supported s = answer (refused NOT_SUPPORTED) s s

-- what the current guest's call does
unfoldable pub call_effect : State → State
call_effect s = chosen calls not_supported (argument s.machine 0) s
