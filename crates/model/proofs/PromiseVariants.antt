-- The variants of the promise are false: each fails of the share's tale. Page 9 has another record just after the sending;
-- its word at 9221 was 2, became 11 by the sender's store, which came first, and 22 by the receiver's.
use Rattle.std.specs.Prelude.{None}
use Prim.Native.Nat.{ℕ}
use mathlib.Core.Path.{◌≡◌, refl, sym, ap, ◌∙◌}
use mathlib.Core.Bool.{Bool, true≢false}
use mathlib.Core.List.{List}
use mathlib.Core.Logic.{inl, inr}
use native.Mathlib.Omega.{arith}
use lib.ListN.{get_or}
use Rattle.isa.specs.Tests.{◌or◌}
use Rattle.model.specs.declared.VmId.{VmId}
use Rattle.model.specs.declared.PageId.{PageId}
use Rattle.model.specs.declared.Handle.{Handle}
use Rattle.model.specs.declared.PageRecord.{PageRecord}
use Rattle.model.specs.declared.Kind.{Kind}
use Rattle.model.specs.State.{State, vm, page, same_page}
use Rattle.model.specs.Row.{free_row}
use Rattle.model.specs.Memory.{loaded}
use Rattle.model.specs.Act.{is_in, Event, Stored, events, event_at, stored}
use Rattle.model.specs.PCases.{owned}
use Rattle.model.specs.PromiseApplies.{acts_of, events_of, Sight, seen_in, after_sending, after_reclaim, Told, share}
use Rattle.model.specs.PromiseVariants.{first_stored, Promised, VariantsAreFalse}
use Rattle.model.proofs.PromiseApplies.{promise_applies}

told : Told share
told = promise_applies.to_a_share

-- what is seen of page 9 and of the word at 9221

exclusive9 : Sight → Bool
exclusive9 seen = (get_or seen.records 0 (free_row None)).exclusive

word9221 : Sight → ℕ
word9221 seen = get_or seen.words 1 0

at_last : loaded (after_reclaim share).memory 9221 ≡ 22
unfolding word9221 seen_in share
at_last = ap word9221 told.sees_last

at_first : loaded share.start.memory 9221 ≡ 2
unfolding word9221 seen_in share
at_first = ap word9221 told.sees_first

-- the first event is the sender's store
sender_stores : event_at (events (acts_of share.lines) (after_sending share)) 0 ≡ Stored (vm 1) 9221 11
unfolding share events_of
sender_stores = ap (λ (es : List Event). event_at es 0) told.by_event

-- what a variant says of the tale
of_share : {Claim : State → State → State → List Event → Kind → VmId → VmId → Handle → List PageId → Type 0} → Promised Claim
    → Claim
    share.start
    (after_sending share)
    (after_reclaim share)
    (events (acts_of share.lines) (after_sending share))
    share.kind
    share.sender
    share.receiver
    share.under
    share.pages
unfolding after_sending after_reclaim
of_share v = v.of_story _ _ _ _ _ _ _ _ _ told.story

pub variants_are_false : VariantsAreFalse
unfolding share exclusive9 seen_in first_stored stored events_of owned is_in same_page ◌or◌
variants_are_false =
    record {
      record_after_sending = λ v.
          true≢false
          (sym (ap exclusive9 told.sees_last)
          ∙ ap (λ (r : PageRecord). r.exclusive) (of_share v (page 9) refl)
          ∙ ap exclusive9 told.sees_sent);
      first_store = λ v.
          let same : ◌≡◌ {A = ℕ} 22 11 =
          sym at_last ∙ of_share v 9221 refl ∙ ap (λ (es : List Event). first_stored 9221 es (loaded share.start.memory 9221)) told.by_event in
          omega arith;
      words_unchanged = λ v. let same : ◌≡◌ {A = ℕ} 22 2 = sym at_last ∙ of_share v 9221 refl ∙ at_first in omega arith;
      parties_exchanged = λ v.
          elim (of_share v 0 9221 11 (vm 1) sender_stores refl) [
            | inl (shared, by) ↦ let same : ◌≡◌ {A = ℕ} 1 0 = ap (λ (g : VmId). g.0) by in omega arith
            | inr (by, c) ↦ omega (arith, c.behind)
          ];
      sender_never_stores = λ v.
          elim (of_share v 0 9221 11 (vm 1) sender_stores refl) [
            | inl never ↦ never
            | inr (by, c) ↦ let same : ◌≡◌ {A = ℕ} 1 0 = ap (λ (g : VmId). g.0) by in omega arith
          ];
    }
