-- The text of a bench's lines, as lists of ASCII codes. Every line ends in a newline.
use Rattle.std.specs.Prelude.{ℕ, zero, suc, ◌+◌, ◌/◌, ◌%◌, ◌^◌, cond, List, [], ◌∷◌, ◌++◌, ltb}
use Rattle.model.specs.declared.Mode.{Mode}
use Rattle.model.specs.declared.Mode.TheVariants.{Normal, Fault, Halted}
use Rattle.model.specs.Tests.{first}
use Rattle.model.specs.ToCall.{Line}

-- the code of a digit below 16: `0` to `9`, then `a` to `f`
unfoldable pub glyph_of : ℕ → ℕ
glyph_of d = cond (ltb d 10) (48 + d) (87 + d)

-- the last k digits of n in base b, the most significant first
unfoldable pub digits : ℕ → ℕ → ℕ → List ℕ
digits b zero n = []
digits b (suc k) n = digits b k (n / b) ++ (glyph_of (n % b) ∷ [])

-- how many decimal digits a number below 10 ^ 20 takes
unfoldable pub places_of : ℕ → ℕ
places_of n = suc (first 19 (λ k. ltb n (10 ^ suc k)))

-- the fewest decimal digits
unfoldable pub decimal : ℕ → List ℕ
decimal n = digits 10 (places_of n) n

-- eight hexadecimal digits
unfoldable pub hex8 : ℕ → List ℕ
hex8 = digits 16 8

abbrev pub space : List ℕ
space = 32 ∷ []

abbrev pub newline : List ℕ
newline = 10 ∷ []

-- `end `
abbrev pub end_word : List ℕ
end_word = 101 ∷ 110 ∷ 100 ∷ 32 ∷ []

-- `refused `
abbrev pub refused_word : List ℕ
refused_word = 114 ∷ 101 ∷ 102 ∷ 117 ∷ 115 ∷ 101 ∷ 100 ∷ 32 ∷ []

-- `refused 4 `
abbrev pub broken_word : List ℕ
broken_word = refused_word ++ (52 ∷ 32 ∷ [])

-- `normal`, `fault`, `halted`
unfoldable pub mode_word : Mode → List ℕ
mode_word Normal = 110 ∷ 111 ∷ 114 ∷ 109 ∷ 97 ∷ 108 ∷ []
mode_word Fault = 102 ∷ 97 ∷ 117 ∷ 108 ∷ 116 ∷ []
mode_word Halted = 104 ∷ 97 ∷ 108 ∷ 116 ∷ 101 ∷ 100 ∷ []

-- a call: the step, the caller, and of its registers R0 before, R0 after and R2 after
unfoldable pub line_text : Line → List ℕ
line_text l =
    decimal l.step
    ++ space
    ++ decimal l.caller.0
    ++ space
    ++ hex8 l.r0_before
    ++ space
    ++ hex8 l.r0_after
    ++ space
    ++ hex8 l.r2_after
    ++ newline

-- the end of a run: its steps, and the mode
unfoldable pub end_text : ℕ → Mode → List ℕ
end_text steps mode = end_word ++ decimal steps ++ space ++ mode_word mode ++ newline

-- a refusal: its number
unfoldable pub refused_text : ℕ → List ℕ
refused_text number = refused_word ++ decimal number ++ newline

-- a broken image: the offset
unfoldable pub broken_text : ℕ → List ℕ
broken_text offset = broken_word ++ decimal offset ++ newline
