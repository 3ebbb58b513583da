-- What becomes of an image: the refusals in their order, or the run of the machine that it means.
use Rattle.std.specs.Prelude.{ℕ, ◌*◌, cond, List, Result, Ok, Err, length, ltb}
use Rattle.model.specs.Constants.{PAGE}
use Rattle.model.specs.Blank.{blank}
use Rattle.model.specs.Entries.{Went, run_of}
use Rattle.image.specs.declared.Image.{Image}
use Rattle.image.specs.Judging.{Judged, judged_of}
use Rattle.image.specs.Laying.{memory_of}
use Rattle.show.specs.declared.course.Refusal.{Refusal}
use Rattle.show.specs.declared.course.Refusal.TheVariants.{TooLarge, Broken}

-- the most bytes that an image may have, and the most pages that its machine may have
abbrev pub BYTES : ℕ
BYTES = 65536

abbrev pub MOST : ℕ
MOST = 16

-- the pages of a machine that fits, or why the image is refused
abbrev pub Course : Type 0
Course = Result ℕ Refusal

-- an image that is not too long: broken, or good, and then its machine may be too large
unfoldable pub judged_course : Judged → Course
judged_course (Err broken) = Err (Broken broken)
judged_course (Ok image) = cond (ltb MOST image.machine.m) (Err TooLarge) (Ok image.machine.m)

unfoldable pub course_of : List ℕ → Course
course_of bytes = cond (ltb BYTES (length bytes)) (Err TooLarge) (judged_course (judged_of bytes))

-- what is run of an image: of a broken one, the blank machine, with no budget
unfoldable pub image_in : Judged → Image
image_in (Err broken) = record { machine = blank; budget = 0 }
image_in (Ok image) = image

-- the run of a good image, with its words and zeros around them in the memory
abbrev pub run_of_image : List ℕ → Image → Went
run_of_image bytes image = run_of image.machine (memory_of bytes (PAGE * image.machine.m)) image.budget

unfoldable pub image_run : List ℕ → Went
image_run bytes = run_of_image bytes (image_in (judged_of bytes))
