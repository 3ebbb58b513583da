-- The first i words are laid.
use Rattle.std.proofs.Common.{◌≡◌}
use Rattle.image.specs.Laying.{words_laid}
use Rattle.image.proofs.laying.lay_words.Given as goal

abbrev pub invariant-loop-i : goal.invariant-loop-i
invariant-loop-i l = l.mem ≡ words_laid l.bytes l.from l.i l.address l.initial.mem
