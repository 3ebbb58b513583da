-- The cutter: what stands at an offset of an image. A record is the length of its payload, its kind, and the payload.
use Rattle.std.specs.Prelude.{ℕ, ◌+◌, Bool, cond, List, [], ◌∷◌, Option, Some, None, length, get_or, eqb, leb}
use Rattle.isa.specs.Tests.{◌and◌}
use Rattle.model.specs.Tests.{some}
use Rattle.image.specs.declared.Record.{Record}
use Rattle.image.specs.Bytes.{number_at}

-- the kinds of an image
abbrev pub image_kinds : List ℕ
image_kinds = 1 ∷ 2 ∷ 3 ∷ 4 ∷ 5 ∷ []

unfoldable pub among : List ℕ → ℕ → Bool
among kinds kind = some (length kinds) (λ i. eqb (get_or kinds i 0) kind)

-- the record at an offset, as its first four bytes have it, and the offset behind it
unfoldable pub record_from : List ℕ → ℕ → Record
record_from bytes at = record { kind = number_at bytes (at + 2); payload = at + 4; size = number_at bytes at }

unfoldable pub end_of : Record → ℕ
end_of r = r.payload + r.size

-- it is taken if none of it lies behind the image's end, and its kind is allowed
unfoldable pub cut : List ℕ → List ℕ → ℕ → Option Record
cut kinds bytes at =
    cond
    (leb (end_of (record_from bytes at)) (length bytes) and among kinds (record_from bytes at).kind)
    (Some (record_from bytes at))
    None
