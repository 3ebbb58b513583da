-- What load answers, for every image and memory. A broken image is told of before memory that does not fit.
use Rattle.std.specs.Prelude.{ℕ, ◌*◌, Bool, true, false, List, Ok, Err, length, eqb}
use Rattle.model.specs.declared.Answer.TheVariants.{Done, WrongMemory, BrokenImage}
use Rattle.model.specs.declared.Loaded.{Loaded}
use Rattle.model.specs.Constants.{PAGE}
use Rattle.model.specs.Blank.{refused_load}
use Rattle.image.specs.declared.Image.{Image}
use Rattle.image.specs.Judging.{Judged, judged_of}
use Rattle.image.specs.Laying.{memory_of}

-- what load leaves: its result, and the memory
pub record Put : Type 0 where
  pub result : Loaded
  pub memory : List ℕ

abbrev pub left_by_load : Loaded → List ℕ → Put
left_by_load result memory = record { result = result; memory = memory }

-- a good image, and memory that fits its machine or does not
unfoldable pub loaded_into : Bool → List ℕ → Image → List ℕ → Put
loaded_into true bytes image memory =
    left_by_load
    (record { answer = Done; machine = image.machine; budget = image.budget; offset = 0 })
    (memory_of bytes (length memory))
loaded_into false bytes image memory = left_by_load (refused_load WrongMemory 0) memory

unfoldable pub loaded_by : Judged → List ℕ → List ℕ → Put
loaded_by (Err broken) bytes memory = left_by_load (refused_load BrokenImage broken.offset) memory
loaded_by (Ok image) bytes memory = loaded_into (eqb (length memory) (PAGE * image.machine.m)) bytes image memory

unfoldable pub load_of : List ℕ → List ℕ → Put
load_of bytes memory = loaded_by (judged_of bytes) bytes memory
