-- The reclaim promise. Proved in `proofs/Promise.antt`; `proofs/PromiseApplies.antt` shows that its premises can be met.
use Rattle.std.specs.Prelude.{ℕ, ◌<◌, ◌≡◌, true, List, ◌⊎◌}
use Rattle.model.specs.declared.VmId.{VmId}
use Rattle.model.specs.declared.PageId.{PageId}
use Rattle.model.specs.declared.Handle.{Handle}
use Rattle.model.specs.declared.Kind.{Kind}
use Rattle.model.specs.declared.Kind.TheVariants.{Lend, Share}
use Rattle.model.specs.State.{State, record_at}
use Rattle.model.specs.Rights.{page_of}
use Rattle.model.specs.Memory.{loaded}
use Rattle.model.specs.Kept.{Accepted}
use Rattle.model.specs.Act.{Act, is_in, after, after_all, Event, Sent, Stored, Retrieved, Relinquished, Reclaimed, event_of, events, event_at, last_stored}

-- In a state that the check accepts, guest i shares or lends the pages ps to guest j under handle h; any acts follow,
-- none of which reclaims h for i; and then one does.
pub record Story (s : State) (a : Act) (acts : List Act) (b : Act) (k : Kind) (i j : VmId) (h : Handle) (ps : List PageId) : Type 0 where
  pub accepted : Accepted s
  pub shared_or_lent : (k ≡ Share) ⊎ (k ≡ Lend)
  pub sent : event_of a s ≡ Sent k i j h ps
  pub not_yet : (q : ℕ) → event_at (events acts (after a s)) q ≡ Reclaimed i h → ⊥
  pub reclaimed : event_of b (after_all acts (after a s)) ≡ Reclaimed i h

-- place q lies between a retrieve of h by j and the next relinquish
pub record Between (es : List Event) (q : ℕ) (j : VmId) (h : Handle) : Type 0 where
  pub r : ℕ
  pub l : ℕ
  pub behind : r < q
  pub before : q < l
  pub retrieved : event_at es r ≡ Retrieved j h
  pub relinquished : event_at es l ≡ Relinquished j h
  pub next : (u : ℕ) → r < u → u < l → event_at es u ≡ Relinquished j h → ⊥

-- Each page has the record that it had before the sending; each word is what the last store since put there, or as it
-- was; and each store was the sender's, if it shared, or the receiver's between a retrieve and the next relinquish.
pub record Returned (s t : State) (es : List Event) (k : Kind) (i j : VmId) (h : Handle) (ps : List PageId) : Type 0 where
  pub records : (p : PageId) → is_in p ps ≡ true → record_at t.machine.records p ≡ record_at s.machine.records p
  pub words : (x : ℕ) → is_in (page_of x) ps ≡ true → loaded t.memory x ≡ last_stored x es (loaded s.memory x)
  pub stores :
      (q x v : ℕ) (g : VmId) → event_at es q ≡ Stored g x v → is_in (page_of x) ps ≡ true
      → ((k ≡ Share) × (g ≡ i)) ⊎ ((g ≡ j) × Between es q j h)

abbrev pub ReclaimPromise : Type 0
ReclaimPromise =
    (s : State) (a : Act) (acts : List Act) (b : Act) (k : Kind) (i j : VmId) (h : Handle) (ps : List PageId)
    → Story s a acts b k i j h ps
    → Returned s (after b (after_all acts (after a s))) (events acts (after a s)) k i j h ps
