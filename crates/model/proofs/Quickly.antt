-- Acts without the check: from a state that the check accepts, what they leave and their events are the same, and computed
-- much sooner.
use mathlib.Core.Path.{◌≡◌, refl}
use mathlib.Core.Bool.{Bool, true, false}
use Rattle.isa.specs.Tests.{◌and◌}
use Rattle.isa.proofs.Tests.{not_both, cannot_pass}
use Rattle.model.specs.Answer.{is_done}
use Rattle.model.specs.State.{State, is_normal}
use Rattle.model.specs.Kept.{Accepted}
use Rattle.model.specs.Act.{Act, entry_of, after, Event, Quiet, Stored, Aim, other, storing, calling, aim, if_so, store_event, call_event, event_of_aim, event_of}
use Rattle.model.proofs.Acts.{effect_of, after_done, after_refused, accepted_done, done_accepted}

-- What is left.

-- the effect, if the mode is normal
unfoldable pub quickly : Act → State → State
quickly a s = elim (is_normal s.machine.mode) [ true ↦ effect_of a s | false ↦ s ]

-- the answer is 0 where the mode is normal, and nowhere else
done_as_normal : (a : Act) (s : State) → Accepted s → is_done (entry_of a s).result.answer ≡ is_normal s.machine.mode
done_as_normal a s c = go (is_normal s.machine.mode) refl
  where
    go : (normal : Bool) → is_normal s.machine.mode ≡ normal → is_done (entry_of a s).result.answer ≡ normal
    go true q = accepted_done a s c.answers_0 q
    go false q = cannot_pass (λ p. not_both (done_accepted a s p).1 q)

-- it is what the act leaves
pub after_quickly : (a : Act) (s : State) → Accepted s → after a s ≡ quickly a s
unfolding quickly
after_quickly a s c = go (is_normal s.machine.mode) (done_as_normal a s c)
  where
    go : (normal : Bool) → is_done (entry_of a s).result.answer ≡ normal
        → after a s ≡ elim normal [ true ↦ effect_of a s | false ↦ s ]
    go true q = after_done a s q
    go false q = after_refused a s q

-- Events.

-- the event of an act from s that left t, by its aim
unfoldable pub event_quickly : Aim → State → State → Event
event_quickly other s t = Quiet
event_quickly (storing x v) s t =
    if_so (is_normal s.machine.mode and is_normal t.machine.mode) (Stored s.machine.current x v)
event_quickly calling s t = call_event s t

-- it is the act's event
pub event_quickly_lem : (a : Act) (s : State) → Accepted s → event_of a s ≡ event_quickly (aim a s) s (quickly a s)
unfolding store_event event_of_aim event_of event_quickly
event_quickly_lem a s c = go (aim a s)
  where
    go : (i : Aim) → event_of_aim i a s ≡ event_quickly i s (quickly a s)
    go other = refl
    go (storing x v) = rw (done_as_normal a s c, after_quickly a s c)
    go calling = rw (after_quickly a s c)
