-- The retrieved mark over a list of events: a store made while it is set lies between a retrieve and the next relinquish.
use Prim.Native.Nat.{ℕ, zero, suc, ◌≤◌, ◌<◌}
use mathlib.Core.Path.{◌≡◌, sym, ap, ◌∙◌}
use mathlib.Core.Bool.{Bool, true, false}
use mathlib.Core.List.{List, [], ◌∷◌}
use mathlib.Core.Logic.{◌⊎◌, inl, inr}
use native.Mathlib.Nat.{eq-or-lt_of_le}
use native.Mathlib.Omega.{arith}
use Rattle.model.specs.declared.VmId.{VmId}
use Rattle.model.specs.declared.Handle.{Handle}
use Rattle.model.specs.Act.{Event, Quiet, Retrieved, Relinquished, event_at}
use Rattle.model.specs.Frame.{Marking, sets, clears, stays}
use Rattle.model.specs.Promise.{Between}
use Rattle.isa.proofs.Tests.{not_both}

module _ (j : VmId) (h : Handle) where
  -- the events take the mark from one value to another, and each fits its value at the time
  pub data Marks (Fact : Event → Bool → Type 0) : List Event → Bool → Bool → Type 0 where
    end : {mark : Bool} → Marks Fact [] mark mark
    next : {e : Event} {es : List Event} {before now after : Bool}
        → Fact e before → Marking j h e before now → Marks Fact es now after → Marks Fact (e ∷ es) before after

  clash : {e : Event} → e ≡ Retrieved j h → e ≡ Relinquished j h → ⊥
  clash p q = let never : ◌≡◌ {A = ℕ} 0 1 = cc in absurd (omega arith)

  -- no relinquish among the events from place lo to before place hi
  record NoneFrom (es : List Event) (lo hi : ℕ) : Type 0 where
    none : (u : ℕ) → lo ≤ u → u < hi → event_at es u ≡ Relinquished j h → ⊥

  nowhere : {es : List Event} {n : ℕ} → NoneFrom es n n
  nowhere = record { none = λ u a b. absurd (omega arith) }

  -- one event more in front, which is passed over or is itself none
  behind : {e : Event} {es : List Event} {lo hi : ℕ} → NoneFrom es lo hi → NoneFrom (e ∷ es) (suc lo) (suc hi)
  behind {e} {es} {lo} {hi} c = record { none = go }
    where
      go : (u : ℕ) → suc lo ≤ u → u < suc hi → event_at (e ∷ es) u ≡ Relinquished j h → ⊥
      go zero a b = absurd (omega arith)
      go (suc u) a b = c.none u (omega arith) (omega arith)

  with_head : {e : Event} {es : List Event} {hi : ℕ} → (e ≡ Relinquished j h → ⊥) → NoneFrom es 0 hi → NoneFrom (e ∷ es) 0 (suc hi)
  with_head {e} {es} {hi} head c = record { none = go }
    where
      go : (u : ℕ) → 0 ≤ u → u < suc hi → event_at (e ∷ es) u ≡ Relinquished j h → ⊥
      go zero a b = head
      go (suc u) a b = c.none u (omega arith) (omega arith)

  -- from a set mark to a clear one there is a first relinquish
  record Clearing (es : List Event) : Type 0 where
    place : ℕ
    relinquished : event_at es place ≡ Relinquished j h
    first : NoneFrom es 0 place

  later : {e : Event} {es : List Event} → (e ≡ Relinquished j h → ⊥) → Clearing es → Clearing (e ∷ es)
  later head c =
      record { place = suc c.place; relinquished = c.relinquished; first = with_head head c.first }

  clearing : {Fact : Event → Bool → Type 0} {es : List Event} {before after : Bool}
      → Marks Fact es before after → before ≡ true → after ≡ false → Clearing es
  clearing end p q = absurd (not_both p q)
  clearing (next f (sets e b m) rest) p q = later (λ r. clash e r) (clearing rest m q)
  clearing (next f (clears e b m) rest) p q = record { place = 0; relinquished = e; first = nowhere }
  clearing (next f (stays o e m) rest) p q = later e (clearing rest (m ∙ p) q)

  -- the mark is set from the start on, or by a retrieve before place q; and there is no relinquish since, up to place l
  data Setting (es : List Event) (q l : ℕ) (before : Bool) : Type 0 where
    from_start : before ≡ true → NoneFrom es 0 l → Setting es q l before
    from_place : (r : ℕ) → r < q → event_at es r ≡ Retrieved j h → NoneFrom es (suc r) l → Setting es q l before

  setting_later : {e : Event} {es : List Event} {q l : ℕ} {before now : Bool}
      → Marking j h e before now → Setting es q l now → Setting (e ∷ es) (suc q) (suc l) before
  setting_later (sets e b m) (from_start p c) = from_place 0 (omega arith) e (behind c)
  setting_later (clears e b m) (from_start p c) = absurd (not_both p m)
  setting_later (stays o e m) (from_start p c) = from_start (sym m ∙ p) (with_head e c)
  setting_later (sets e b m) (from_place r lo f c) = from_place (suc r) (omega arith) f (behind c)
  setting_later (clears e b m) (from_place r lo f c) = from_place (suc r) (omega arith) f (behind c)
  setting_later (stays o e m) (from_place r lo f c) = from_place (suc r) (omega arith) f (behind c)

  -- the mark is set at place q, and the next relinquish is not before it
  record Around (es : List Event) (q : ℕ) (before : Bool) : Type 0 where
    place : ℕ
    not_earlier : q ≤ place
    relinquished : event_at es place ≡ Relinquished j h
    setting : Setting es q place before

  -- an event that is fit for one reason, or while the mark is set and for another
  module _ (Fact : Event → Bool → Type 0) (One Other : Type 0) (e : Event) (is_one : Quiet ≡ e → ⊥)
      (wants : (mark : Bool) → Fact e mark → One ⊎ (Other × (mark ≡ true))) where
    around_later : {d : Event} {es : List Event} {q : ℕ} {before now : Bool}
        → Marking j h d before now → One ⊎ (Other × Around es q now) → One ⊎ (Other × Around (d ∷ es) (suc q) before)
    around_later m (inl reason) = inl reason
    around_later m (inr (reason, a)) =
        inr (
          reason,
          record {
            place = suc a.place;
            not_earlier = omega (arith, a.not_earlier);
            relinquished = a.relinquished;
            setting = setting_later m a.setting;
          },
        )

    around_here : {es : List Event} {before after : Bool} → Marks Fact es before after → after ≡ false
        → One ⊎ (Other × (before ≡ true)) → One ⊎ (Other × Around es 0 before)
    around_here marks clear (inl reason) = inl reason
    around_here marks clear (inr (reason, set)) =
        let c = clearing marks set clear in
        inr (reason, record { place = c.place; not_earlier = omega arith; relinquished = c.relinquished; setting = from_start set c.first })

    around : {es : List Event} {before after : Bool} → Marks Fact es before after → after ≡ false
        → (q : ℕ) → event_at es q ≡ e → One ⊎ (Other × Around es q before)
    around end clear q p = absurd (is_one p)
    around (next f m rest) clear zero p = around_here (next f m rest) clear (wants _ (rw p at f))
    around (next f m rest) clear (suc q) p = around_later m (around rest clear q p)

    -- the place of the relinquish is another
    place_behind : {es : List Event} {q : ℕ} {before : Bool} → (a : Around es q before)
        → (e ≡ Relinquished j h → ⊥) → event_at es q ≡ e → q < a.place
    place_behind {es} {q} a not-it p =
        elim (eq-or-lt_of_le a.not_earlier) [
          | inl same ↦ absurd (not-it (sym p ∙ ap (event_at es) same ∙ a.relinquished))
          | inr less ↦ less
        ]

    -- over events that begin and end with a clear mark
    pub between : {es : List Event} {before after : Bool} → Marks Fact es before after → before ≡ false → after ≡ false
        → (e ≡ Relinquished j h → ⊥) → (q : ℕ) → event_at es q ≡ e → One ⊎ (Other × Between es q j h)
    between {es} {before} marks unset clear not-it q p = go (around marks clear q p)
      where
        set : (a : Around es q before) → Setting es q a.place before → Between es q j h
        set a (from_start p c) = absurd (not_both p unset)
        set a (from_place r lo f c) =
            record {
              r = r;
              l = a.place;
              behind = lo;
              before = place_behind a not-it p;
              retrieved = f;
              relinquished = a.relinquished;
              next = λ u lo hi. c.none u lo hi;
            }

        go : One ⊎ (Other × Around es q before) → One ⊎ (Other × Between es q j h)
        go (inl reason) = inl reason
        go (inr (reason, a)) = inr (reason, set a a.setting)
