-- The worked texts: antt computes each. Assumes nothing.
use mathlib.Core.Path.{refl}
use Rattle.model.specs.Tests.{or_next, first}
use Rattle.lines.specs.Text.{glyph_of, digits, places_of, decimal, hex8, mode_word, line_text, end_text, refused_text, broken_text}
use Rattle.lines.specs.Examples.{example_line, TextExamples}

pub text_examples : TextExamples
unfolding or_next first glyph_of digits places_of decimal hex8 mode_word line_text end_text refused_text broken_text example_line
text_examples =
    record {
      line = refl;
      end = refl;
      end_normal = refl;
      end_fault = refl;
      refused = refl;
      broken = refl;
      nothing = refl;
      nine = refl;
      ten = refl;
      most_steps = refl;
      all_letters = refl;
    }
