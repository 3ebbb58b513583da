-- What the bench prints: of an image that fits the lines of its run, since a loaded machine passes the check; and the worked cases,
-- which antt computes.
-- Assumes nothing.
use Prim.Native.Nat.{ℕ, ◌+◌, ◌-◌, ◌*◌}
use mathlib.Core.Path.{◌≡◌, refl}
use mathlib.Core.List.{List}
use native.Mathlib.Omega.{arith}
use lib.ListN.{replicate, length-replicate}
use Rattle.model.specs.declared.Answer.TheVariants.{Done}
use Rattle.model.specs.Constants.{PAGE}
use Rattle.model.specs.Answer.{answer_number, answers}
use Rattle.model.specs.Blank.{blank, refused_load}
use Rattle.model.specs.ToCall.{is_called, calls_next, line_of, lines_from}
use Rattle.model.specs.Entries.{check_of, one_more, steps, went_by, run_of}
use Rattle.model.specs.Tests.{or_next, first}
use Rattle.model.proofs.Computing.{entries_compute}
use Rattle.image.specs.Bytes.{byte_at, number_at, word_at}
use Rattle.image.specs.Pieces.{among, record_from, end_of, cut}
use Rattle.image.specs.Contents.{has_form, has_words, content_of}
use Rattle.image.specs.Drafts.{begun, unused, describable, ownable, inside, complete, fits, is_counts, may_stand, with_counts, with_guest, with_owner, with_budget, taken}
use Rattle.image.specs.Judging.{ended_with, at_end, heard, tried, turn, follow, judged_from, judged_of}
use Rattle.image.specs.Laying.{words_laid, content_laid, record_laid, piece_laid, laid_from, memory_of}
use Rattle.image.specs.Worked.{counts, guest, owner, budget, program, example}
use Rattle.image.proofs.Loads.{loaded_passes}
use Rattle.lines.specs.Text.{glyph_of, digits, places_of, decimal, hex8, mode_word, line_text, end_text, refused_text, broken_text}
use Rattle.lines.specs.Examples.{example_line}
use Rattle.std.specs.Prelude.{Ok}
use Rattle.show.specs.Course.{judged_course, course_of, image_in, image_run}
use Rattle.show.specs.Told.{lines_text, lines_if, calls_from, rest_of}
use Rattle.show.specs.Printed.{image_state, image_budget, printed_by, printed_of, PrintsItsRun, idle, PrintedExamples}
use Rattle.show.proofs.Courses.{fitting, good_loads}

-- the machine of an image that fits passes the check with its memory
image_passes : (bytes : List ℕ) (m : ℕ) → course_of bytes ≡ Ok m
    → check_of (image_state bytes).machine (image_state bytes).memory ≡ Done
unfolding answer_number image_in
image_passes bytes m e =
    let zeros : List ℕ = replicate (PAGE * m) 0 in
    let fit = fitting bytes m e in
    let loads = good_loads bytes m zeros fit (length-replicate (PAGE * m) 0) in
    rw fit.good (rw loads at (loaded_passes bytes zeros (rw loads refl)))

pub prints_its_run : PrintsItsRun
unfolding printed_of printed_by rest_of calls_from lines_if image_run answer_number answers
prints_its_run bytes m e =
    let none : image_budget bytes - image_budget bytes ≡ 0 = omega arith in
    let count : 0 + (image_run bytes).result.count ≡ (image_run bytes).result.count = omega arith in
    rw (e, image_passes bytes m e, none, count)

pub printed_examples : PrintedExamples
unfolding entries_compute blank refused_load byte_at number_at word_at among record_from end_of cut has_form has_words content_of begun unused describable ownable inside complete fits is_counts may_stand with_counts with_guest with_owner with_budget taken ended_with at_end heard tried turn follow judged_from judged_of words_laid content_laid record_laid piece_laid laid_from memory_of counts guest owner budget program example one_more steps went_by run_of is_called calls_next line_of lines_from or_next first glyph_of digits places_of decimal hex8 mode_word line_text end_text refused_text broken_text example_line judged_course course_of image_in image_run lines_text lines_if calls_from rest_of printed_by printed_of idle
printed_examples =
    record { yields = refl; nothing = refl; no_budget = refl; sixteen = refl; seventeen = refl; no_step = refl }
