-- All that the bench prints of an image; and worked cases of it, computed. Proved in `proofs/Printed.antt`.
use Rattle.std.specs.Prelude.{ℕ, ◌*◌, ◌≡◌, List, [], ◌++◌, Ok, Err}
use Rattle.model.specs.declared.Mode.TheVariants.{Normal, Fault, Halted}
use Rattle.model.specs.Constants.{PAGE}
use Rattle.model.specs.State.{State, state}
use Rattle.model.specs.ToCall.{lines_from}
use Rattle.image.specs.Judging.{judged_of}
use Rattle.image.specs.Laying.{memory_of}
use Rattle.image.specs.Worked.{counts, guest, budget, example}
use Rattle.lines.specs.Text.{line_text, end_text, refused_text, broken_text}
use Rattle.lines.specs.Examples.{example_line}
use Rattle.show.specs.declared.course.Refusal.TheVariants.{TooLarge, Broken}
use Rattle.show.specs.Course.{Course, course_of, image_in, image_run}
use Rattle.show.specs.Told.{lines_text, rest_of}

-- the state that a good image means, and its budget
abbrev pub image_state : List ℕ → State
image_state bytes =
    state (image_in (judged_of bytes)).machine (memory_of bytes (PAGE * (image_in (judged_of bytes)).machine.m))

abbrev pub image_budget : List ℕ → ℕ
image_budget bytes = (image_in (judged_of bytes)).budget

-- a refusal, or the text of the whole run
unfoldable pub printed_by : Course → List ℕ → List ℕ
printed_by (Err TooLarge) bytes = refused_text 1
printed_by (Err (Broken broken)) bytes = broken_text broken.offset
printed_by (Ok m) bytes =
    (rest_of (image_budget bytes) (image_budget bytes) (image_state bytes).machine (image_state bytes).memory).text

unfoldable pub printed_of : List ℕ → List ℕ
printed_of bytes = printed_by (course_of bytes) bytes

-- Of an image that fits: a line for each call of its run, and the last line, with the number of its steps and its last mode.
abbrev pub PrintsItsRun : Type 0
PrintsItsRun =
    (bytes : List ℕ) (m : ℕ) → course_of bytes ≡ Ok m
    → printed_of bytes
    ≡ lines_text (lines_from 0 (image_budget bytes) (image_state bytes))
    ++ end_text (image_run bytes).result.count (image_run bytes).result.machine.mode

-- two guests with no code, so many pages and so many steps
unfoldable pub idle : ℕ → ℕ → List ℕ
idle pages steps = counts 2 pages ++ guest 0 2 3 0 ++ guest 1 4 5 4 ++ budget steps

pub record PrintedExamples : Type 0 where
  -- the scope document's example: `3 0 8400006c 84000061 00000000`, `end 4 halted`
  pub yields : printed_of example ≡ line_text example_line ++ end_text 4 Halted
  -- an image of no bytes, and one that ends behind its first record, though it has too many pages
  pub nothing : printed_of [] ≡ broken_text 0
  pub no_budget : printed_of (counts 2 17) ≡ broken_text 8
  -- sixteen pages are run, and fault at once; seventeen are refused
  pub sixteen : printed_of (idle 16 9) ≡ end_text 1 Fault
  pub seventeen : printed_of (idle 17 9) ≡ refused_text 1
  -- no step is asked for
  pub no_step : printed_of (idle 16 0) ≡ end_text 0 Normal
