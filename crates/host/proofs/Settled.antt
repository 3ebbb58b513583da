-- The contract of the function for hosts takes any input and leaves no choice: any two outcomes that it allows for the same
-- arguments, the count and the lent memory as it returns together, are equal.
-- Assumes nothing.
use mathlib.Core.Path.{◌≡◌, sym, ap, ◌∙◌}
use Rattle.isa.proofs.Settled.{TakesAny}
use Rattle.creamtally.proofs.Settled.{SettledLent}
use Rattle.host.specs.Hosted.{Hosted}
use Rattle.host.proofs.creamtally_run.Kinds as run-kinds
use Rattle.host.proofs.creamtally_run.Reads as run-reads

pub creamtally_run_takes_any : TakesAny run-kinds.ps run-reads.Asked
creamtally_run_takes_any κs args = tt

pub creamtally_run_settled : SettledLent run-kinds.ps run-kinds.r run-reads.Post (λ κs last. last.1.1.0.now)
creamtally_run_settled κs args x y u v p q =
    let same : ◌≡◌ {A = Hosted} _ _ = p ∙ sym q in
    (ap (λ (h : Hosted). h.count) same, ap (λ (h : Hosted). h.memory) same)
