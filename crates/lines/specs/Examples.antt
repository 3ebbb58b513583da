-- Worked texts, computed. Proved in `proofs/Examples.antt`.
use Rattle.std.specs.Prelude.{◌≡◌, [], ◌∷◌}
use Rattle.model.specs.declared.Mode.TheVariants.{Normal, Fault, Halted}
use Rattle.model.specs.State.{vm}
use Rattle.model.specs.ToCall.{Line}
use Rattle.lines.specs.Text.{decimal, hex8, line_text, end_text, refused_text, broken_text}

unfoldable pub example_line : Line
example_line =
    record { step = 3; caller = vm 0; r0_before = 0x8400006C; r0_after = 0x84000061; r2_after = 0 }

pub record TextExamples : Type 0 where
  -- `3 0 8400006c 84000061 00000000`
  pub line :
      line_text example_line
      ≡ 51 ∷ 32 ∷ 48 ∷ 32
      ∷ 56 ∷ 52 ∷ 48 ∷ 48 ∷ 48 ∷ 48 ∷ 54 ∷ 99 ∷ 32
      ∷ 56 ∷ 52 ∷ 48 ∷ 48 ∷ 48 ∷ 48 ∷ 54 ∷ 49 ∷ 32
      ∷ 48 ∷ 48 ∷ 48 ∷ 48 ∷ 48 ∷ 48 ∷ 48 ∷ 48 ∷ 10
      ∷ []
  -- `end 4 halted`, `end 100 normal`, `end 0 fault`
  pub end : end_text 4 Halted ≡ 101 ∷ 110 ∷ 100 ∷ 32 ∷ 52 ∷ 32 ∷ 104 ∷ 97 ∷ 108 ∷ 116 ∷ 101 ∷ 100 ∷ 10 ∷ []
  pub end_normal :
      end_text 100 Normal
      ≡ 101 ∷ 110 ∷ 100 ∷ 32 ∷ 49 ∷ 48 ∷ 48 ∷ 32 ∷ 110 ∷ 111 ∷ 114 ∷ 109 ∷ 97 ∷ 108 ∷ 10 ∷ []
  pub end_fault : end_text 0 Fault ≡ 101 ∷ 110 ∷ 100 ∷ 32 ∷ 48 ∷ 32 ∷ 102 ∷ 97 ∷ 117 ∷ 108 ∷ 116 ∷ 10 ∷ []
  -- `refused 1`
  pub refused : refused_text 1 ≡ 114 ∷ 101 ∷ 102 ∷ 117 ∷ 115 ∷ 101 ∷ 100 ∷ 32 ∷ 49 ∷ 10 ∷ []
  -- `refused 4 22`
  pub broken :
      broken_text 22 ≡ 114 ∷ 101 ∷ 102 ∷ 117 ∷ 115 ∷ 101 ∷ 100 ∷ 32 ∷ 52 ∷ 32 ∷ 50 ∷ 50 ∷ 10 ∷ []
  -- numbers
  pub nothing : decimal 0 ≡ 48 ∷ []
  pub nine : decimal 9 ≡ 57 ∷ []
  pub ten : decimal 10 ≡ 49 ∷ 48 ∷ []
  pub most_steps : decimal 4294967295 ≡ 52 ∷ 50 ∷ 57 ∷ 52 ∷ 57 ∷ 54 ∷ 55 ∷ 50 ∷ 57 ∷ 53 ∷ []
  pub all_letters : hex8 0x90ABCDEF ≡ 57 ∷ 48 ∷ 97 ∷ 98 ∷ 99 ∷ 100 ∷ 101 ∷ 102 ∷ []
