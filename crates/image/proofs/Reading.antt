-- What the proofs of reading share: the counts of a draft stay in range, record by record; and every guest is asked.
use Prim.Native.Nat.{ℕ, ◌<◌}
use mathlib.Core.Path.{◌≡◌, ap, ◌∙◌}
use mathlib.Core.Bool.{Bool, true}
use native.Mathlib.Omega.{arith}
use lib.ListN.{get_or}
use Rattle.std.specs.List.{list_all, range_with_len}
use Rattle.std.proofs.lemmas.List.FromFn.{length-range_with_len, get_or-range_with_len}
use Rattle.parts.proofs.Loops.{every_listed}
use Rattle.model.specs.Tests.{every}
use Rattle.std.proofs.lemmas.Grind.{common_steps}
use Rattle.isa.specs.Tests.{◌and◌}
use Rattle.model.specs.Sound.{counts_in_range}
use Rattle.model.specs.Blank.{blank}
use Rattle.model.proofs.Tests.{every_same}
use Rattle.image.specs.declared.Content.{Content}
use Rattle.image.specs.declared.Draft.{Draft}
use Rattle.image.specs.Drafts.{Ranged, begun, fits, may_stand, with_counts, with_guest, with_owner, with_budget, taken}

-- The counts of a draft are in range.

pub begun_ranged : Ranged begun
unfolding begun blank
begun_ranged = (omega arith, omega arith)

pub taken_ranged : (d : Draft) (content : Content) → Ranged d → fits d content ≡ true → Ranged (taken d content)
unfolding fits taken with_counts with_guest with_owner with_budget counts_in_range ◌and◌
taken_ranged d content ranged e = grind (arith, common_steps)

-- a record that may stand says what it may
pub may_stand_fits : (at : ℕ) (d : Draft) (content : Content) → may_stand at d content ≡ true → fits d content ≡ true
unfolding may_stand ◌and◌
may_stand_fits at d content e = grind (arith, common_steps)

-- Kind 5: every guest is asked.

pub every_ranged : (n : ℕ) (p : ℕ → Bool) → list_all p (range_with_len 0 n) ≡ every n p
every_ranged n p =
    every_listed 0 p _ (length-range_with_len 0 n)
    ∙ every_same n (λ k. p (get_or (range_with_len 0 n) k 0)) p (λ k b. ap p (place k b))
  where
    place : (k : ℕ) → k < n → get_or (range_with_len 0 n) k 0 ≡ k
    place k b = omega (arith, get_or-range_with_len 0 n k 0 b)
