-- The first record that is bad, or what a good image says of its machine as a whole.
use Rattle.std.specs.Prelude.{ℕ, zero, suc, cond, List, Option, Some, None, Result, Ok, Err, length, eqb}
use Rattle.model.specs.declared.Machine.{Machine}
use Rattle.image.specs.declared.Record.{Record}
use Rattle.image.specs.declared.Content.{Content}
use Rattle.image.specs.declared.Draft.{Draft}
use Rattle.image.specs.declared.Image.{Image}
use Rattle.image.specs.declared.Broken.{Broken}
use Rattle.image.specs.Pieces.{image_kinds, end_of, cut}
use Rattle.image.specs.Contents.{content_of}
use Rattle.image.specs.Drafts.{begun, may_stand, taken}

abbrev pub Judged : Type 0
Judged = Result Image Broken

abbrev pub broken : ℕ → Judged
broken offset = Err (record { offset = offset })

abbrev pub good : Machine → ℕ → Judged
good machine budget = Ok (record { machine = machine; budget = budget })

-- at the image's end: it is good if kind 5 was read
unfoldable pub ended_with : ℕ → Machine → Option ℕ → Judged
ended_with at machine None = broken at
ended_with at machine (Some budget) = good machine budget

unfoldable pub at_end : ℕ → Draft → Judged
at_end at d = ended_with at d.machine d.budget

-- what comes of looking at one offset: a verdict, or the next offset and a draft with more in it
pub data Turn : Type 0 where
  stops : Judged → Turn
  goes_on : ℕ → Draft → Turn

-- a record says something, and it may stand
unfoldable pub heard : ℕ → Draft → ℕ → Option Content → Turn
heard at d next None = stops (broken at)
heard at d next (Some content) =
    cond (may_stand at d content) (goes_on next (taken d content)) (stops (broken at))

unfoldable pub tried : List ℕ → ℕ → Draft → Option Record → Turn
tried bytes at d None = stops (broken at)
tried bytes at d (Some r) = heard at d (end_of r) (content_of bytes r)

unfoldable pub turn : List ℕ → ℕ → Draft → Turn
turn bytes at d = cond (eqb at (length bytes)) (stops (at_end at d)) (tried bytes at d (cut image_kinds bytes at))

unfoldable pub follow : Turn → (ℕ → Draft → Judged) → Judged
follow (stops judged) rest = judged
follow (goes_on at d) rest = rest at d

-- at most so many records are read; a record has four bytes at least, so there are no more than bytes
unfoldable pub judged_from : ℕ → List ℕ → ℕ → Draft → Judged
judged_from zero bytes at d = at_end at d
judged_from (suc more) bytes at d = follow (turn bytes at d) (judged_from more bytes)

unfoldable pub judged_of : List ℕ → Judged
judged_of bytes = judged_from (length bytes) bytes 0 begun
