-- The entries are called with Shaped machines only: whoever calls one owns its arguments as values of their types, and a
-- machine of the code's type is Shaped. So the code gives this premise of the model's theorems.
-- Assumes nothing.
use contract.Lifetimes.{Lfts, Shares}
use contract.Monad.{fact, fact_mono}
use base.Logic.{ent, via, snd∗, ex_e}
use base.Fml.{Fml}
use types.Logic.{sem}
use denote.RattleType.{owns}
use denote.Shadow.{shadow, shows_shadow}
use denote.Signature.{Signature, types_at}
use denote.Triple.Entry.{Args, Vals, alive}
use borrow.Fn.World.{World, Entered}
use Rattle.model.specs.Shaped.{Shaped}
use Rattle.model.proofs.Typed.{typed_shaped}
use Rattle.creamtally.specs.contracts.check as the-check
use Rattle.creamtally.specs.contracts.call as the_call
use Rattle.creamtally.specs.contracts.step as the_step
use Rattle.creamtally.specs.contracts.run as the-run
use Rattle.creamtally.specs.contracts.run_to_call as the-leg
use Rattle.creamtally.specs.contracts.message as the-message

-- in every model of the logic, what is owned where a function of this signature is entered shows the claim of its arguments
abbrev pub TakesOnly : (S : Signature) → ((κs : Lfts S.lifetimes) → Args S κs → Type 0) → Type 2
TakesOnly S Claim =
    (w : World) (κs : Lfts S.lifetimes) (args : Args S κs) → ent w.𝓤 (Entered S κs args w) (fact w.𝓤 (Claim κs args))

-- it does if the types of the parameters give the claim
takes_only : (S : Signature) (Claim : (κs : Lfts S.lifetimes) → Args S κs → Type 0)
    → ((κs : Lfts S.lifetimes) (args : Args S κs) (vss : Vals S κs) → shadow (owns (types_at S.params κs) args vss) → Claim κs args)
    → TakesOnly S Claim
takes_only S Claim typed w κs args =
    let owned : Vals S κs → Fml = owns (types_at S.params κs) args in
    ex_e w.𝓤 _ (λ (qs : Shares S.lifetimes). ex_e w.𝓤 _ (λ (vss : Vals S κs).
    via w.𝓤 _ (snd∗ w.𝓤 (alive w.𝓛 S κs qs) (sem w.𝓛 (owned vss)))
    (via w.𝓤 _ (shows_shadow w.𝓛 (owned vss)) (fact_mono w.𝓤 _ _ (typed κs args vss)))))

pub check_takes_shaped : TakesOnly the-check.signature (λ κs args. Shaped args.0)
check_takes_shaped = takes_only the-check.signature _ (λ κs args vss t. typed_shaped args.0 (_, t.0))

pub call_takes_shaped : TakesOnly the_call.signature (λ κs args. Shaped args.0)
call_takes_shaped = takes_only the_call.signature _ (λ κs args vss t. typed_shaped args.0 (_, t.0))

pub step_takes_shaped : TakesOnly the_step.signature (λ κs args. Shaped args.0)
step_takes_shaped = takes_only the_step.signature _ (λ κs args vss t. typed_shaped args.0 (_, t.0))

pub run_takes_shaped : TakesOnly the-run.signature (λ κs args. Shaped args.0)
run_takes_shaped = takes_only the-run.signature _ (λ κs args vss t. typed_shaped args.0 (_, t.0))

pub run_to_call_takes_shaped : TakesOnly the-leg.signature (λ κs args. Shaped args.0)
run_to_call_takes_shaped = takes_only the-leg.signature _ (λ κs args vss t. typed_shaped args.0 (_, t.0))

pub message_takes_shaped : TakesOnly the-message.signature (λ κs args. Shaped args.0)
message_takes_shaped = takes_only the-message.signature _ (λ κs args vss t. typed_shaped args.0 (_, t.0))
