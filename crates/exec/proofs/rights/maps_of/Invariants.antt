-- Each map is that of the pages from p on.
use Rattle.std.proofs.Common.{◌≡◌}
use Rattle.exec.proofs.Downward.{pagesFrom}
use Rattle.exec.proofs.rights.maps_of.Given as goal

abbrev pub invariant-loop-p : goal.invariant-loop-p
invariant-loop-p l =
    (l.loads ≡ pagesFrom l.records l.m l.g l.own.tx l.p) × (l.stores ≡ pagesFrom l.records l.m l.g l.own.rx l.p)
