-- Which course an image takes, by what the code tests; and what loading one that fits leaves, so what its run is.
-- Assumes nothing.
use Prim.Native.Nat.{ℕ, ◌*◌, ◌≤◌}
use Rattle.std.specs.Prelude.{Ok, Err}
use native.Mathlib.Omega.{arith}
use mathlib.Core.Path.{◌≡◌, refl, sym, ap, ◌∙◌}
use mathlib.Core.Bool.{Bool, true, false, false≢true, cond}
use mathlib.Core.List.{List}
use lib.ListN.{length}
use lib.Dec.{ltb}
use borrow.Author.Tests.{ltb-false, eq-eqb}
use Rattle.model.specs.declared.Loaded.{Loaded}
use Rattle.model.specs.declared.Answer.TheVariants.{Done}
use Rattle.model.specs.Constants.{PAGE}
use Rattle.model.specs.Entries.{run_of}
use Rattle.image.specs.declared.Image.{Image}
use Rattle.image.specs.Judging.{Judged, judged_of}
use Rattle.image.specs.Laying.{memory_of}
use Rattle.image.specs.Loading.{left_by_load, loaded_into, loaded_by, load_of}
use Rattle.show.specs.declared.course.Refusal.TheVariants.{TooLarge}
use Rattle.show.specs.Course.{BYTES, MOST, Course, judged_course, course_of, image_in, run_of_image, image_run}

-- An image that fits is good, and its machine has so many pages.
pub record Fitting (judged : Judged) (m : ℕ) : Type 0 where
  pub image : Image
  pub good : judged ≡ Ok image
  pub pages : image.machine.m ≡ m
  pub few : m ≤ MOST

-- a test that refuses did not
passed : (refuses : Bool) (course : Course) {m : ℕ} → cond refuses (Err TooLarge) course ≡ Ok m → (refuses ≡ false) × (course ≡ Ok m)
passed true course e = absurd (false≢true cc)
passed false course e = (refl, e)

judged_fit : (judged : Judged) {m : ℕ} → judged_course judged ≡ Ok m → Fitting judged m
unfolding judged_course
judged_fit (Err bad) e = absurd (false≢true cc)
judged_fit (Ok image) {m} e =
    let few = passed (ltb MOST image.machine.m) (Ok image.machine.m) e in
    let fits : Ok image.machine.m ≡ Ok m = few.1 in
    let same : image.machine.m ≡ m = cc in
    record { image = image; good = refl; pages = same; few = rw same at (ltb-false MOST image.machine.m few.0) }

pub fitting : (bytes : List ℕ) (m : ℕ) → course_of bytes ≡ Ok m → Fitting (judged_of bytes) m
unfolding course_of
fitting bytes m e = judged_fit (judged_of bytes) (passed (ltb BYTES (length bytes)) (judged_course (judged_of bytes)) e).1

pub has_room : (bytes : List ℕ) {m : ℕ} → course_of bytes ≡ Ok m → PAGE * m ≤ PAGE * MOST
has_room bytes e = omega (arith, (fitting bytes _ e).few)

-- What loading it leaves, whatever the memory held.
pub good_loads : (bytes : List ℕ) (m : ℕ) (memory : List ℕ) (fit : Fitting (judged_of bytes) m) → length memory ≡ PAGE * m
    → load_of bytes memory
    ≡ left_by_load
    (record { answer = Done; machine = fit.image.machine; budget = fit.image.budget; offset = 0 })
    (memory_of bytes (PAGE * fit.image.machine.m))
unfolding load_of loaded_by loaded_into
good_loads bytes m memory fit size =
    let fits : length memory ≡ PAGE * fit.image.machine.m = size ∙ ap (λ (k : ℕ). PAGE * k) (sym fit.pages) in
    rw fit.good (rw (eq-eqb (length memory) _ fits) (rw fits))

pub loaded_run : (bytes : List ℕ) (m : ℕ) (memory : List ℕ) {after : List ℕ} {r : Loaded} → course_of bytes ≡ Ok m
    → length memory ≡ PAGE * m
    → left_by_load r after ≡ load_of bytes memory
    → run_of r.machine after r.budget ≡ image_run bytes
unfolding image_run image_in
loaded_run bytes m memory {after} {r} e size was =
    let fit = fitting bytes m e in
    let left = was ∙ good_loads bytes m memory fit size in
    let runs : run_of r.machine after r.budget ≡ run_of_image bytes fit.image =
    (λ i. run_of (left i).result.machine (left i).memory (left i).result.budget) in
    runs ∙ rw fit.good refl
