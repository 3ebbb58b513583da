-- The choice by number: past numbers that are others; and what is done under the name that a number has is what the number
-- chooses.
use Rattle.std.specs.Prelude.{Result, Err}
use Prim.Native.Nat.{ℕ}
use mathlib.Core.Path.{◌≡◌, refl, sym, ap, ◌∙◌}
use mathlib.Core.Bool.{Bool, true, false}
use mathlib.Core.List.{List, [], ◌∷◌, map}
use lib.Dec.{eqb}
use borrow.Author.Tests.{ne_eqb}
use Rattle.model.specs.Constants.{RUN, YIELD, POLL, WAIT, SEND, DONATE, LEND, SHARE, RETRIEVE, RELINQUISH, RECLAIM}
use Rattle.model.specs.State.{State, argument}
use Rattle.model.specs.Call.{Choice, on, chosen, call_effect, not_supported}
use Rattle.parts.specs.declared.refusal.Refusal.{Refusal}
use Rattle.parts.specs.declared.refusal.Refusal.TheVariants.{NotSupported}
use Rattle.parts.specs.Refusal.{code_of}
use Rattle.calls.specs.declared.CallName.{CallName}
use Rattle.calls.specs.Choice.{named, effect_of, refused_by, done_by}

-- the two sides of a choice
side : {A : Type 0} → A → A → Bool → A
side here there b = elim b [ true ↦ here | false ↦ there ]

-- w is none of the numbers of the list
abbrev pub Avoids : {A : Type 0} → ℕ → List (Choice A) → Type 0
Avoids w [] = Unit
Avoids w (c ∷ rest) = (w ≡ c.number → ⊥) × Avoids w rest

pub chosen_none : {A : Type 0} (list : List (Choice A)) (otherwise : A) (w : ℕ) → Avoids w list → chosen list otherwise w ≡ otherwise
unfolding chosen side
chosen_none [] otherwise w none = refl
chosen_none (c ∷ rest) otherwise w none =
    ap (side c.value (chosen rest otherwise w)) (ne_eqb w c.number none.0) ∙ chosen_none rest otherwise w none.1

-- a number that is no call's
pub no_call : (w : ℕ) → (w ≡ RUN → ⊥) → (w ≡ YIELD → ⊥) → (w ≡ POLL → ⊥) → (w ≡ WAIT → ⊥) → (w ≡ SEND → ⊥) → (w ≡ DONATE → ⊥)
    → (w ≡ LEND → ⊥) → (w ≡ SHARE → ⊥) → (w ≡ RETRIEVE → ⊥) → (w ≡ RELINQUISH → ⊥) → (w ≡ RECLAIM → ⊥) → Err NotSupported ≡ named w
unfolding named
no_call w run yields poll wait send donate lend share retrieve relinquish reclaim =
    sym (chosen_none _ _ w (run, (yields, (poll, (wait, (send, (donate, (lend, (share, (retrieve, (relinquish, (reclaim, tt))))))))))))

-- What is made of the chosen value is chosen among what is made of the values.

abbrev renamed : {A B : Type 0} → (A → B) → Choice A → Choice B
renamed f c = on c.number (f c.value)

chosen_of : {A B : Type 0} (f : A → B) (list : List (Choice A)) (otherwise : A) (w : ℕ)
    → f (chosen list otherwise w) ≡ chosen (map (renamed f) list) (f otherwise) w
unfolding chosen side
chosen_of f [] otherwise w = refl
chosen_of f (c ∷ rest) otherwise w = go (eqb w c.number) (chosen_of f rest otherwise w)
  where
    go : (b : Bool) → f (chosen rest otherwise w) ≡ chosen (map (renamed f) rest) (f otherwise) w
        → f (side c.value (chosen rest otherwise w) b) ≡ side (f c.value) (chosen (map (renamed f) rest) (f otherwise) w) b
    go true on_rest = refl
    go false on_rest = on_rest

-- the call that R0 names has its effect
named_call : (s : State) → done_by (named (argument s.machine 0)) s ≡ call_effect s
unfolding named call_effect done_by effect_of refused_by not_supported code_of
named_call s = ap (λ (effect : State → State). effect s) (chosen_of done_by _ _ (argument s.machine 0))

-- the same of what the code has found by the number that it has read
pub found_call : (s : State) {w : ℕ} {found : Result CallName Refusal} → w ≡ argument s.machine 0 → found ≡ named w
    → done_by found s ≡ call_effect s
found_call s read e = rw (e, read) (named_call s)
