-- A part of what is lent, by its place.
use Rattle.std.specs.Prelude.{ℕ, ◌+◌, ◌*◌, ◌≡◌, List}
use Rattle.std.specs.Borrow.{Bor}

-- the part is the whole's own words from word x on: it lies in the same block, x words of four bytes further on
abbrev pub BeginsAt : Bor (List ℕ) → Bor (List ℕ) → ℕ → Type 0
BeginsAt part whole x = part.ref_ptr ≡ (whole.ref_ptr.0, whole.ref_ptr.1 + x * 4)
