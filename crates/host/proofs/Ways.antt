-- Which way the definition of a host's run goes, by what the load answered.
use Prim.Native.Nat.{ℕ}
use mathlib.Core.Path.{◌≡◌, ap}
use mathlib.Core.Bool.{true, false}
use mathlib.Core.List.{List}
use Rattle.model.specs.declared.Ran.{Ran}
use Rattle.model.specs.declared.Loaded.{Loaded}
use Rattle.model.specs.Answer.{is_done}
use Rattle.model.specs.Entries.{Went, run_of}
use Rattle.image.specs.Loading.{left_by_load, load_of}
use Rattle.host.specs.Hosted.{hosted, hosted_run, hosted_by, hosted_of}

module _ (image : List ℕ) (budget : ℕ) (memory : List ℕ) where
  pub not_loaded : (result : Loaded) {after : List ℕ} → left_by_load result after ≡ load_of image memory
      → is_done result.answer ≡ false
      → hosted 0 after ≡ hosted_of image budget memory
  unfolding hosted_of hosted_by
  not_loaded result loaded refused = rw (← loaded, refused)

  pub ran : (result : Loaded) {words after : List ℕ} {went : Ran} → left_by_load result words ≡ load_of image memory
      → is_done result.answer ≡ true
      → record { result = went; memory = after } ≡ run_of result.machine words budget
      → hosted went.count after ≡ hosted_of image budget memory
  unfolding hosted_of hosted_by
  ran result loaded done is = rw (← loaded, done) (ap (λ (w : Went). hosted_run w) is)
