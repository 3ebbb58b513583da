-- What a record says, by its kind and the form of its payload.
use Rattle.std.specs.Prelude.{ℕ, ◌+◌, ◌-◌, ◌/◌, ◌%◌, Bool, cond, List, Option, Some, None, eqb, leb}
use Rattle.isa.specs.Tests.{◌and◌}
use Rattle.image.specs.declared.Record.{Record}
use Rattle.image.specs.declared.Content.{Content}
use Rattle.image.specs.declared.Content.TheVariants.{Counts, Described, Owned, Words, Budget}
use Rattle.image.specs.Bytes.{number_at, word_at}

-- of this kind, with a payload of exactly this size
unfoldable pub has_form : Record → ℕ → ℕ → Bool
has_form r kind size = eqb r.kind kind and eqb r.size size

-- of kind 4, with an address and one or more whole words
unfoldable pub has_words : Record → Bool
has_words r = eqb r.kind 4 and leb 8 r.size and eqb (r.size % 4) 0

-- the payloads, from their first byte on
abbrev pub counts : List ℕ → ℕ → Content
counts bytes at = Counts (number_at bytes at) (number_at bytes (at + 2))

abbrev pub described : List ℕ → ℕ → Content
described bytes at =
    Described (number_at bytes at) (number_at bytes (at + 2)) (number_at bytes (at + 4)) (word_at bytes (at + 6))

abbrev pub owned : List ℕ → ℕ → Content
owned bytes at = Owned (number_at bytes at) (number_at bytes (at + 2))

abbrev pub words : List ℕ → ℕ → ℕ → Content
words bytes at size = Words (word_at bytes at) (size / 4 - 1)

abbrev pub budget : List ℕ → ℕ → Content
budget bytes at = Budget (word_at bytes at)

-- a record whose payload has not its kind's form says nothing
unfoldable pub content_of : List ℕ → Record → Option Content
content_of bytes r =
    cond (has_form r 1 4) (Some (counts bytes r.payload))
    (cond (has_form r 2 10) (Some (described bytes r.payload))
    (cond (has_form r 3 4) (Some (owned bytes r.payload))
    (cond (has_words r) (Some (words bytes r.payload r.size))
    (cond (has_form r 5 4) (Some (budget bytes r.payload))
    None))))
