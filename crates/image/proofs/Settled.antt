-- The contract of the judgement takes any bytes and leaves no choice. (Those of loading are with the entries.)
-- Assumes nothing.
use mathlib.Core.Path.{sym, ◌∙◌}
use Rattle.isa.proofs.Settled.{TakesAny, Settled}
use Rattle.image.proofs.judging.judge.Kinds as judge-kinds
use Rattle.image.proofs.judging.judge.Reads as judge-reads

pub judge_takes_any : TakesAny judge-kinds.ps judge-reads.Asked
judge_takes_any κs args = tt

pub judge_settled : Settled judge-kinds.ps judge-kinds.r judge-reads.Post
judge_settled κs args x y u v p q = p ∙ sym q
