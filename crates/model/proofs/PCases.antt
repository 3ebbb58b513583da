-- The worked cases hold of the definitions: antt computes each row.
use mathlib.Core.Path.{refl}
use lib.Dec.{lit<}
use Rattle.model.specs.declared.Kind.TheVariants.{Share}
use Rattle.model.specs.Tests.{counted}
use Rattle.model.specs.Shaped.{Shaped}
use Rattle.model.specs.Kept.{is_owned, owned_at, owned_pages}
use Rattle.model.specs.PCases.{box, owned, ownerless, three_guests, machine, turn, words, next, sending, messaging, called, send, instruction, seen_by, seen, same_records, from1to2, sharing, shared, share_retrieved, reclaimed_early, reclaimed_late, lend_retrieved, donation_retrieved, retrieved_by_zero, message_of_length, PCases, LawsApply, OwnedPages}
use Rattle.model.proofs.Shaped.{is_shaped, shaped_holds}
use Rattle.model.proofs.Laws.{sent_pages_ascend, lowest_free_is_taken, send_copies_its_length}
use Rattle.model.proofs.Computing.{entries_compute}

pub p_cases : PCases
unfolding entries_compute box owned ownerless three_guests machine turn words next sending messaging called send instruction seen_by seen same_records from1to2 sharing shared share_retrieved reclaimed_early reclaimed_late lend_retrieved donation_retrieved retrieved_by_zero message_of_length
p_cases =
    record {
      P1 = refl;
      P2 = refl;
      P3 = refl;
      P3-no-record-changes = refl;
      P4 = refl;
      P5 = refl;
      P6 = refl;
      P7 = refl;
      P8 = refl;
      P9 = refl;
      P10-none = refl;
      P10-above = refl;
      P10-all = refl;
      P11 = refl;
      P12 = refl;
      P12-none = refl;
    }

-- The machine of the cases has the shape of the code's arrays.

machine_shaped : Shaped sharing.machine
unfolding entries_compute is_shaped turn sending sharing three_guests machine
machine_shaped = shaped_holds sharing.machine refl

pub laws_apply : LawsApply
unfolding entries_compute turn words sending messaging sharing three_guests machine box owned ownerless
laws_apply =
    record {
      pages_ascend_at_p1 = sent_pages_ascend Share sharing refl;
      handle_0_is_taken_at_p1 = lowest_free_is_taken Share sharing machine_shaped (lit< tt) refl;
      words_are_copied_at_p10 = send_copies_its_length (messaging 1024) refl refl;
    }

pub owned_pages_lem : OwnedPages
unfolding entries_compute box owned ownerless three_guests machine turn words next sending called send donation_retrieved counted is_owned owned_at owned_pages
owned_pages_lem = record { at_first = refl; after_p6 = refl }
