-- The numbers of the answers.
use Rattle.std.specs.Prelude.{ℕ, Bool, eqb}
use Rattle.model.specs.declared.Answer.{Answer}
use Rattle.model.specs.declared.Answer.TheVariants.{Done, WrongMemory, Unsound, Stopped, BrokenImage}

unfoldable pub answer_number : Answer → ℕ
answer_number Done = 0
answer_number WrongMemory = 1
answer_number Unsound = 2
answer_number Stopped = 3
answer_number BrokenImage = 4

-- the answer has this number
unfoldable pub answers : Answer → ℕ → Bool
answers answer number = eqb (answer_number answer) number

abbrev pub is_done : Answer → Bool
is_done answer = answers answer 0
