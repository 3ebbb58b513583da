-- The premises of the promise are met in both tales. antt computes them, without the check at each act: what passes it at
-- the start passes it ever after.
use Prim.Native.Nat.{ℕ, zero, suc}
use mathlib.Core.Path.{◌≡◌, refl, sym, ap, ◌∙◌}
use mathlib.Core.Bool.{Bool, true, false, not, false≢true}
use mathlib.Core.List.{List, [], ◌∷◌}
use mathlib.Core.Logic.{◌⊎◌, inl, inr}
use borrow.Author.Tests.{not-true}
use Rattle.isa.specs.Tests.{◌and◌}
use Rattle.isa.proofs.Tests.{and_left, and_right, not_both}
use Rattle.model.specs.declared.VmId.{VmId}
use Rattle.model.specs.declared.PageId.{PageId}
use Rattle.model.specs.declared.Handle.{Handle}
use Rattle.model.specs.declared.Kind.TheVariants.{Lend, Share}
use Rattle.model.specs.Tests.{listed}
use Rattle.model.specs.State.{State}
use Rattle.model.specs.Kept.{Accepted}
use Rattle.model.specs.Act.{Act, after, after_all, Event, Quiet, Stored, Sent, Retrieved, Relinquished, Reclaimed, aim_of, aim_of_word, aim, if_so, callers_in, sent_event, handle_event, no_event, call_event, event_of, events, event_at, stored, last_stored}
use Rattle.model.specs.Promise.{Story}
use Rattle.model.specs.PCases.{box, owned, ownerless, three_guests, words}
use Rattle.model.specs.PromiseApplies.{file, in_flight, machine_of, program, Line, acts_of, events_of, line_of, log_of, Sight, seen_in, last_stores, Tale, after_sending, after_reclaim, Told}
use Rattle.model.specs.PromiseApplies.{share_sender, share_receiver, share_start, share, loan_sender, loan_stranger, loan_receiver, loan_start, loan, PromiseApplies}
use Rattle.model.proofs.Shaped.{is_shaped, shaped_holds}
use Rattle.model.proofs.Acts.{effect_of}
use Rattle.model.proofs.Kept.{act_keeps_accepted}
use Rattle.model.proofs.Promise.{reclaim_promise}
use Rattle.model.proofs.Computing.{entries_compute}
use Rattle.model.proofs.Quickly.{quickly, after_quickly, event_quickly, event_quickly_lem}

-- No reclaim among events, as a test.

is_reclaim : Event → Bool
is_reclaim Quiet = false
is_reclaim (Stored g x v) = false
is_reclaim (Sent kind i j h ps) = false
is_reclaim (Retrieved g h) = false
is_reclaim (Relinquished g h) = false
is_reclaim (Reclaimed g h) = true

no_reclaim : List Event → Bool
no_reclaim [] = true
no_reclaim (e ∷ rest) = not (is_reclaim e) and no_reclaim rest

-- then none is at any place
no_reclaim_at : (es : List Event) → no_reclaim es ≡ true → (q : ℕ) (i : VmId) (h : Handle) → event_at es q ≡ Reclaimed i h → ⊥
unfolding is_reclaim no_reclaim
no_reclaim_at [] e q i h p = false≢true (ap is_reclaim p)
no_reclaim_at (x ∷ rest) e zero i h p = not_both (ap is_reclaim p) (not-true _ (and_left _ _ e))
no_reclaim_at (x ∷ rest) e (suc q) i h p = no_reclaim_at rest (and_right _ _ e) q i h p

-- Acts and a last one, computed.

-- the log, the last act's event, and what is seen behind it
record Account : Type 0 where
  log : List Line
  reclaim : Event
  sight : Sight

abbrev account : List Line → Event → Sight → Account
account log reclaim sight = record { log = log; reclaim = reclaim; sight = sight }

module _ (b : Act) (ps : List PageId) (xs : List ℕ) where
  unfoldable accountQuickly : List Act → State → Account
  accountQuickly [] s = let t = quickly b s in account [] (event_quickly (aim b s) s t) (seen_in t ps xs)
  accountQuickly (a ∷ rest) s =
      let t = quickly a s in
      let more = accountQuickly rest t in
      account (line_of a s t (event_quickly (aim a s) s t) ∷ more.log) more.reclaim more.sight

  -- it is what the definitions say
  account_quickly : (acts : List Act) (s : State) → Accepted s
      → accountQuickly acts s ≡ account (log_of acts s) (event_of b (after_all acts s)) (seen_in (after b (after_all acts s)) ps xs)
  unfolding after_all log_of accountQuickly
  account_quickly [] s c = rw (event_quickly_lem b s c, after_quickly b s c)
  account_quickly (a ∷ rest) s c =
      rw (event_quickly_lem a s c, ← after_quickly a s c, account_quickly rest (after a s) (act_keeps_accepted a s c))

-- A tale.

-- what antt has to compute of it
record Computed (t : Tale) : Type 0 where
  accepted : Accepted t.start
  shared_or_lent : (t.kind ≡ Share) ⊎ (t.kind ≡ Lend)
  sent :
      event_quickly (aim t.sending t.start) t.start (quickly t.sending t.start)
      ≡ Sent t.kind t.sender t.receiver t.under t.pages
  told :
      accountQuickly t.reclaiming t.pages t.addresses (acts_of t.lines) (quickly t.sending t.start)
      ≡ account t.lines (Reclaimed t.sender t.under) t.at_last
  none_reclaims : no_reclaim (events_of t.lines) ≡ true
  sees_first : seen_in t.start t.pages t.addresses ≡ t.at_first
  sees_sent : seen_in (quickly t.sending t.start) t.pages t.addresses ≡ t.at_sending
  stores_at_last : last_stores (events_of t.lines) t.start t.addresses ≡ t.at_last.words

-- a log has the events
events_of_log : (acts : List Act) (s : State) → events acts s ≡ events_of (log_of acts s)
unfolding events events_of line_of log_of
events_of_log [] s = refl
events_of_log (a ∷ rest) s = ap (λ es. event_of a s ∷ es) (events_of_log rest (after a s))

module _ (t : Tale) (c : Computed t) where
  -- log, reclaim and end are the tale's
  is_told :
      account
      (log_of (acts_of t.lines) (after_sending t))
      (event_of t.reclaiming (after_all (acts_of t.lines) (after_sending t)))
      (seen_in (after_reclaim t) t.pages t.addresses)
      ≡ account t.lines (Reclaimed t.sender t.under) t.at_last
  unfolding after_sending after_reclaim
  is_told =
      sym (account_quickly _ _ _ _ _ (act_keeps_accepted t.sending t.start c.accepted))
      ∙ rw (after_quickly t.sending t.start c.accepted) c.told

  by_event : events (acts_of t.lines) (after_sending t) ≡ events_of t.lines
  by_event = events_of_log (acts_of t.lines) (after_sending t) ∙ ap (λ x. events_of x.log) is_told

  -- the promise's premises
  story :
      Story t.start t.sending (acts_of t.lines) t.reclaiming t.kind t.sender t.receiver t.under t.pages
  unfolding after_sending
  story =
      record {
        accepted = c.accepted;
        shared_or_lent = c.shared_or_lent;
        sent = event_quickly_lem t.sending t.start c.accepted ∙ c.sent;
        not_yet = λ q p. no_reclaim_at (events_of t.lines) c.none_reclaims q t.sender t.under (rw (← by_event) p);
        reclaimed = ap (λ x. x.reclaim) is_told;
      }

  tells : Told t
  unfolding after_sending after_reclaim
  tells =
      record {
        story = story;
        by_line = ap (λ x. x.log) is_told;
        by_event = by_event;
        returned = rw (← by_event) (reclaim_promise _ _ _ _ _ _ _ _ _ story);
        sees_first = c.sees_first;
        sees_sent = rw (after_quickly t.sending t.start c.accepted) c.sees_sent;
        sees_last = ap (λ x. x.sight) is_told;
        stores_at_last = c.stores_at_last;
      }

-- Both tales.

-- what has to unfold for a tale to be computed
unfoldable tales_compute : Unit {0}
unfolding entries_compute listed box owned ownerless three_guests words aim_of aim_of_word aim if_so callers_in sent_event handle_event no_event call_event stored last_stored effect_of quickly event_quickly file in_flight machine_of program acts_of events_of line_of seen_in last_stores is_reclaim no_reclaim is_shaped accountQuickly
tales_compute = tt

share_computed : Computed share
unfolding tales_compute share_sender share_receiver share_start share
share_computed =
    record {
      accepted = record { shaped = shaped_holds share.start.machine refl; answers_0 = refl };
      shared_or_lent = inl refl;
      sent = refl;
      told = refl;
      none_reclaims = refl;
      sees_first = refl;
      sees_sent = refl;
      stores_at_last = refl;
    }

loan_computed : Computed loan
unfolding tales_compute loan_sender loan_stranger loan_receiver loan_start loan
loan_computed =
    record {
      accepted = record { shaped = shaped_holds loan.start.machine refl; answers_0 = refl };
      shared_or_lent = inr refl;
      sent = refl;
      told = refl;
      none_reclaims = refl;
      sees_first = refl;
      sees_sent = refl;
      stores_at_last = refl;
    }

pub promise_applies : PromiseApplies
promise_applies = record { to_a_share = tells share share_computed; to_a_loan = tells loan loan_computed }
