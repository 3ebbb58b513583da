-- Statements that look like the reclaim promise and are false: the must-fail edits of its text make these. Proved in
-- `proofs/PromiseVariants.antt`, by the two tales of `PromiseApplies`.
use Rattle.std.specs.Prelude.{ℕ, ◌≡◌, true, List, [], ◌∷◌, ◌⊎◌}
use Rattle.model.specs.declared.VmId.{VmId}
use Rattle.model.specs.declared.PageId.{PageId}
use Rattle.model.specs.declared.Handle.{Handle}
use Rattle.model.specs.declared.Kind.{Kind}
use Rattle.model.specs.declared.Kind.TheVariants.{Share}
use Rattle.model.specs.State.{State, record_at}
use Rattle.model.specs.Rights.{page_of}
use Rattle.model.specs.Memory.{loaded}
use Rattle.model.specs.Act.{is_in, Act, after, after_all, Event, Stored, events, event_at, stored}
use Rattle.model.specs.Promise.{Story, Between}

-- the word at x if the first store counted, and not the last
unfoldable pub first_stored : ℕ → List Event → ℕ → ℕ
first_stored x [] w = w
first_stored x (e ∷ rest) w = stored x e (first_stored x rest w)

-- a claim about every story: s before the sending, u behind it, t behind the reclaim, es the events between
pub record Promised (Claim : State → State → State → List Event → Kind → VmId → VmId → Handle → List PageId → Type 0) : Type 0 where
  pub of_story :
      (s : State) (a : Act) (acts : List Act) (b : Act) (k : Kind) (i j : VmId) (h : Handle) (ps : List PageId)
      → Story s a acts b k i j h ps
      → Claim s (after a s) (after b (after_all acts (after a s))) (events acts (after a s)) k i j h ps

pub record VariantsAreFalse : Type 0 where
  pub record_after_sending :
      Promised (λ s u t es k i j h ps.
      (p : PageId) → is_in p ps ≡ true → record_at t.machine.records p ≡ record_at u.machine.records p)
      → ⊥
  pub first_store :
      Promised (λ s u t es k i j h ps.
      (x : ℕ) → is_in (page_of x) ps ≡ true → loaded t.memory x ≡ first_stored x es (loaded s.memory x))
      → ⊥
  pub words_unchanged :
      Promised (λ s u t es k i j h ps. (x : ℕ) → is_in (page_of x) ps ≡ true → loaded t.memory x ≡ loaded s.memory x) → ⊥
  pub parties_exchanged :
      Promised (λ s u t es k i j h ps.
      (q x v : ℕ) (g : VmId) → event_at es q ≡ Stored g x v → is_in (page_of x) ps ≡ true
      → ((k ≡ Share) × (g ≡ j)) ⊎ ((g ≡ i) × Between es q j h))
      → ⊥
  pub sender_never_stores :
      Promised (λ s u t es k i j h ps.
      (q x v : ℕ) (g : VmId) → event_at es q ≡ Stored g x v → is_in (page_of x) ps ≡ true → ⊥ ⊎ ((g ≡ j) × Between es q j h))
      → ⊥
