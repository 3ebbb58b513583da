-- The text of a run: a line for each call, and the last line; and what is put of it into a buffer.
use Rattle.std.specs.Prelude.{ℕ, ◌+◌, ◌-◌, ◌≤◌, ◌<◌, ◌≡◌, Bool, true, false, List, [], ◌∷◌, ◌++◌, length, take}
use Rattle.model.specs.declared.Machine.{Machine}
use Rattle.model.specs.State.{state}
use Rattle.model.specs.Answer.{is_done}
use Rattle.model.specs.Entries.{check_of, run_of}
use Rattle.model.specs.ToCall.{Line, lines_from}
use Rattle.lines.specs.Text.{line_text, end_text}
use Rattle.show.specs.declared.run.Ending.{Ending}
use Rattle.show.specs.declared.run.Piece.{Piece}
use Rattle.show.specs.Ended.{ending}

unfoldable pub lines_text : List Line → List ℕ
lines_text [] = []
lines_text (l ∷ ls) = line_text l ++ lines_text ls

-- the lines of a run that goes on after so many steps: none where the check refuses
unfoldable pub lines_if : Bool → List Line → List Line
lines_if true ls = ls
lines_if false ls = []

unfoldable pub calls_from : ℕ → ℕ → Machine → List ℕ → List Line
calls_from taken left m memory = lines_if (is_done (check_of m memory)) (lines_from taken left (state m memory))

-- what is to come of a run: its text, and its end
pub record Rest : Type 0 where
  pub text : List ℕ
  pub end : Ending

abbrev pub rest : List ℕ → Ending → Rest
rest text end = record { text = text; end = end }

abbrev pub behind : List ℕ → Rest → Rest
behind text r = rest (text ++ r.text) r.end

-- the last line, and nothing more
abbrev pub last_line : ℕ → Machine → Rest
last_line steps m = rest (end_text steps m.mode) (ending steps m)

-- of a run with so much of its budget left
unfoldable pub rest_of : ℕ → ℕ → Machine → List ℕ → Rest
rest_of budget left m memory =
    behind
    (lines_text (calls_from (budget - left) left m memory))
    (last_line (budget - left + (run_of m memory left).result.count) (run_of m memory left).result.machine)

-- a piece that has all of it, or that has more to come behind it
unfoldable pub piece_then : Bool → ℕ → Piece → List ℕ → List ℕ → Rest
piece_then true budget p memory out = behind (take p.end out) (rest_of budget p.left p.machine memory)
piece_then false budget p memory out = rest (take p.end out) (ending (budget - p.left) p.machine)

-- What a piece is: all that is to come of the run, or its beginning; and some of the budget is used if more is to come.
pub record PutPiece (budget left : ℕ) (m : Machine) (memory : List ℕ) (p : Piece) (after out : List ℕ) : Type 0 where
  pub inside : p.end ≤ length out
  pub within : p.left ≤ budget
  pub less : p.more ≡ true → p.left < left
  pub whole : piece_then p.more budget p after out ≡ rest_of budget left m memory
