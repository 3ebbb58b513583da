-- A text written into a writer's buffer, at the writer's place, which is behind the text afterwards.
use Rattle.std.specs.Prelude.{◌≡◌, ℕ, List}
use Rattle.lines.specs.declared.writer.Writer.{Writer}
use Rattle.lines.specs.Laid.{Laid}

pub record Wrote (before : Writer) (text : List ℕ) (after : Writer) : Type 0 where
  pub same_buffer : after.out.ghost_name ≡ before.out.ghost_name
  pub laid : Laid before.out.now before.at text after.out.now after.at
