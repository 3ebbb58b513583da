-- The worked images: antt computes each row.
use mathlib.Core.Path.{refl}
use Rattle.model.specs.ToCall.{is_called, calls_next, line_of, lines_from}
use Rattle.model.specs.Entries.{one_more, steps, went_by, run_of}
use Rattle.model.specs.Blank.{blank, refused_load}
use Rattle.model.specs.Legs.{shown, line}
use Rattle.model.specs.PCases.{box, owned, ownerless}
use Rattle.model.proofs.Computing.{entries_compute}
use Rattle.image.specs.Bytes.{byte_at, number_at, word_at}
use Rattle.image.specs.Pieces.{among, record_from, end_of, cut}
use Rattle.image.specs.Contents.{has_form, has_words, content_of}
use Rattle.image.specs.Drafts.{begun, unused, describable, ownable, inside, complete, fits, is_counts, may_stand, with_counts, with_guest, with_owner, with_budget, taken}
use Rattle.image.specs.Judging.{ended_with, at_end, heard, tried, turn, follow, judged_from, judged_of}
use Rattle.image.specs.Laying.{words_laid, content_laid, record_laid, piece_laid, laid_from, memory_of}
use Rattle.image.specs.Loading.{loaded_into, loaded_by, load_of}
use Rattle.image.specs.Worked.{counts, guest, owner, word, budget, program, example, seen, told, small, WorkedImages}

-- what has to unfold for a load to compute
unfoldable loads_compute : Unit {0}
unfolding entries_compute blank refused_load byte_at number_at word_at among record_from end_of cut has_form has_words content_of begun unused describable ownable inside complete fits is_counts may_stand with_counts with_guest with_owner with_budget taken ended_with at_end heard tried turn follow judged_from judged_of words_laid content_laid record_laid piece_laid laid_from memory_of loaded_into loaded_by load_of counts guest owner word budget program example seen told small
loads_compute = tt

pub worked_images : WorkedImages
unfolding loads_compute box owned ownerless one_more steps went_by run_of is_called calls_next line_of lines_from shown line
worked_images =
    record {
      loads = refl;
      runs = refl;
      later_wins = refl;
      any_order = refl;
      empty = refl;
      header_short = refl;
      payload_short = refl;
      left_over = refl;
      three_left_over = refl;
      record_left_over = refl;
      not_first = refl;
      twice = refl;
      too_few_guests = refl;
      too_many_guests = refl;
      too_many_pages = refl;
      too_few_pages = refl;
      wide_count = refl;
      wide_guest = refl;
      wide_page = refl;
      no_such_guest = refl;
      guest_twice = refl;
      no_such_rx = refl;
      no_such_tx = refl;
      one_box = refl;
      box_twice = refl;
      tx_owned = refl;
      rx_owned = refl;
      owner_of_box = refl;
      owner_twice = refl;
      no_such_owner = refl;
      no_such_page = refl;
      no_word = refl;
      half_word = refl;
      last_word = refl;
      end_outside = refl;
      outside = refl;
      guest_missing = refl;
      no_budget = refl;
      no_such_kind = refl;
      short_budget = refl;
      long_counts = refl;
      long_budget = refl;
      wrong_memory = refl;
      broken_first = refl;
    }
