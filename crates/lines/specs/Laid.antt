-- A text laid into a buffer, and the room that each line needs at most.
use Rattle.std.specs.Prelude.{ℕ, ◌+◌, ◌≤◌, ◌≡◌, List, ◌++◌, length, take, drop}

-- the buffer with the text in it from an offset on
unfoldable pub laid_text : List ℕ → ℕ → List ℕ → List ℕ
laid_text out at text = take at out ++ text ++ drop (at + length text) out

-- The text was laid at an offset, and the result is the offset behind it. The last part follows from the one before it; it is
-- there so that the part of the buffer up to the result can be lent with no proof.
pub record Laid (before : List ℕ) (at : ℕ) (text after : List ℕ) (behind : ℕ) : Type 0 where
  pub laid : after ≡ laid_text before at text
  pub next : behind ≡ at + length text
  pub kept : length after ≡ length before
  pub within : behind ≤ length after
  pub counts : behind ≡ length (take behind after)

-- the most bytes of a line of a call, of the last line, of a refusal, and of that of a broken image

abbrev pub LINE : ℕ
LINE = 42

abbrev pub END : ℕ
END = 22

abbrev pub REFUSED : ℕ
REFUSED = 19

abbrev pub BROKEN : ℕ
BROKEN = 31
