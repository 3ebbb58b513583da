-- Numbers and words of an image: two and four bytes, the lowest first.
use Rattle.std.specs.Prelude.{ℕ, ◌+◌, ◌*◌, List, get_or}

unfoldable pub byte_at : List ℕ → ℕ → ℕ
byte_at bytes at = get_or bytes at 0

unfoldable pub number_at : List ℕ → ℕ → ℕ
number_at bytes at = byte_at bytes at + 256 * byte_at bytes (at + 1)

unfoldable pub word_at : List ℕ → ℕ → ℕ
word_at bytes at = number_at bytes at + 65536 * number_at bytes (at + 2)
