-- The memory that a good image means: its words in their order, each over what was there, on zeros.
use Rattle.std.specs.Prelude.{ℕ, zero, suc, ◌+◌, ◌*◌, List, Option, Some, None, length, replicate}
use Rattle.model.specs.Tests.{set_each}
use Rattle.image.specs.declared.Record.{Record}
use Rattle.image.specs.declared.Content.{Content}
use Rattle.image.specs.declared.Content.TheVariants.{Counts, Described, Owned, Words, Budget}
use Rattle.image.specs.Bytes.{word_at}
use Rattle.image.specs.Pieces.{image_kinds, end_of, cut}
use Rattle.image.specs.Contents.{content_of}

-- the k words that stand in the bytes from an offset on, at address x and behind it
unfoldable pub words_laid : List ℕ → ℕ → ℕ → ℕ → List ℕ → List ℕ
words_laid bytes from k x memory = set_each k (λ i. x + i) (λ i. word_at bytes (from + 4 * i)) memory

-- they stand in the payload behind the address
unfoldable pub content_laid : List ℕ → Record → Option Content → List ℕ → List ℕ
content_laid bytes r None memory = memory
content_laid bytes r (Some (Counts n m)) memory = memory
content_laid bytes r (Some (Described g tx rx pc)) memory = memory
content_laid bytes r (Some (Owned p g)) memory = memory
content_laid bytes r (Some (Words x k)) memory = words_laid bytes (r.payload + 4) k x memory
content_laid bytes r (Some (Budget steps)) memory = memory

unfoldable pub record_laid : List ℕ → Record → List ℕ → List ℕ
record_laid bytes r memory = content_laid bytes r (content_of bytes r) memory

unfoldable pub piece_laid : List ℕ → Option Record → List ℕ → (ℕ → List ℕ → List ℕ) → List ℕ
piece_laid bytes None memory rest = memory
piece_laid bytes (Some r) memory rest = rest (end_of r) (record_laid bytes r memory)

unfoldable pub laid_from : ℕ → List ℕ → ℕ → List ℕ → List ℕ
laid_from zero bytes at memory = memory
laid_from (suc more) bytes at memory = piece_laid bytes (cut image_kinds bytes at) memory (laid_from more bytes)

unfoldable pub memory_of : List ℕ → ℕ → List ℕ
memory_of bytes size = laid_from (length bytes) bytes 0 (replicate size 0)
