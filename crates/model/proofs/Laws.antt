-- The laws of `specs/Laws.antt`.
use Prim.Native.Nat.{◌%◌, ◌<◌}
use mathlib.Core.Path.{◌≡◌, refl, ap, ◌∙◌}
use native.Mathlib.Omega.{arith}
use lib.ListN.{length}
use lib.Dec.{ltb, eqb-suc-zero}
use borrow.Author.Tests.{le-ltb}
use Rattle.isa.specs.Tests.{◌and◌}
use Rattle.model.specs.declared.Kind.{Kind}
use Rattle.model.specs.Constants.{HANDLES, SUCCESS}
use Rattle.model.specs.State.{State, state, handle, transaction_at, registers_at, register}
use Rattle.model.specs.Blank.{blank}
use Rattle.model.specs.Sound.{counts_in_range, sound}
use Rattle.model.specs.Reply.{passes, succeeded}
use Rattle.model.specs.Deeds.{settled}
use Rattle.model.specs.Sending.{lowest_free, sending_verdict, sending_effect, sent, with_handle, sent_base, sent_page}
use Rattle.model.specs.HandleCall.{lookup}
use Rattle.model.specs.Entries.{judged, check_of}
use Rattle.model.specs.Laws.{NothingAboveLast, SentPagesAscend, LowestFreeIsTaken, SendCopiesItsLength, BlankIsRefused}
use Rattle.std.proofs.lemmas.Bool.{cond-false}
use Rattle.model.proofs.Tests.{ascending_lt}
use Rattle.model.proofs.State.{shaped_sized, written_sized, written_at, transaction_same, transaction_other}
use Rattle.model.proofs.Reply.{answer_passes}
use Rattle.model.proofs.Entries.{done_memory, done_sound}
use Rattle.model.proofs.Send.{copies}
use Rattle.model.proofs.Sending.{passed, free_at_lowest, live_below_lowest}

-- Handle words.

pub nothing_above_last : NothingAboveLast
unfolding lookup
nothing_above_last transactions w h = cond-false (ltb w HANDLES) _ _ (le-ltb w HANDLES h)

-- Sendings.

pub sent_pages_ascend : SentPagesAscend
unfolding sent_page
sent_pages_ascend kind s e i j l h =
    let known = passed kind s e in
    let up = ascending_lt _ _ known.ascend i j l h in
    let at_i : sent_base s i % 1024 ≡ 0 = known.bases i (omega arith) in
    let at_j : sent_base s j % 1024 ≡ 0 = known.bases j h in
    omega arith

-- what a sending that passes leaves
sending_done : (kind : Kind) (s : State) → sending_verdict kind s ≡ passes
    → sending_effect kind s
    ≡ state (with_handle (succeeded (sent kind s)) (lowest_free s.machine.transactions)) s.memory
unfolding sending_effect
sending_done kind s e = answer_passes s _ e

pub lowest_free_is_taken : LowestFreeIsTaken
unfolding sent settled with_handle succeeded
lowest_free_is_taken kind s shaped low e =
    let h = lowest_free s.machine.transactions in
    let g = s.machine.current in
    let below : h.0 < 16 = (passed kind s e).is_handle in
    let done = sending_done kind s e in
    record {
      is_handle = omega arith;
      was_free = free_at_lowest s.machine.transactions below;
      lower_are_live = live_below_lowest s.machine.transactions;
      is_taken =
          ap (λ (t : State). transaction_at t.machine.transactions h) done
          ∙ transaction_same s.machine.transactions h _ (omega (arith, shaped.sixteen_transactions));
      others_stay = λ k other.
          ap (λ (t : State). transaction_at t.machine.transactions (handle k)) done
          ∙ transaction_other s.machine.transactions h (handle k) _ other;
      is_in_r2 =
          ap (λ (t : State). register (registers_at t.machine.registers g) 2) done
          ∙ written_at 2 h.0 (written_sized 0 SUCCESS (shaped_sized s.machine g shaped low)) (omega arith);
    }

-- The blank machine.

pub blank_is_refused : BlankIsRefused
unfolding judged check_of blank sound counts_in_range ◌and◌
blank_is_refused =
    record {
      without_memory = refl;
      with_memory = λ w memory. rw (eqb-suc-zero (length memory));
    }

-- Send.

pub send_copies_its_length : SendCopiesItsLength
send_copies_its_length s ok e = copies s (done_memory _ _ ok) (done_sound _ _ ok) e
