-- Each map begins with no page, gets one page more in front in each turn, and has come to page 0 at the end.
use Rattle.std.proofs.Common.{arith}
use Rattle.isa.specs.Tests.{◌and◌}
use Rattle.model.specs.State.{record_at}
use Rattle.exec.proofs.Downward.{pages_none, pages_fit, pages_more, pages_whole}
use Rattle.exec.proofs.rights.maps_of.Goals as goal

pub loop-p-init : goal.loop-p-init
loop-p-init c = (pages_none _ _ _ _, pages_none _ _ _ _)

pub with_page-loads-requires : goal.with_page-loads-requires
with_page-loads-requires c = pages_fit _ _ _ _ _ (omega arith) c.loop-p-test.true c.loop-p.invariant.0

pub with_page-stores-requires : goal.with_page-stores-requires
with_page-stores-requires c = pages_fit _ _ _ _ _ (omega arith) c.loop-p-test.true c.loop-p.invariant.1

pub loop-p-preserved : goal.loop-p-preserved
unfolding ◌and◌ record_at
loop-p-preserved c = (
  pages_more _ _ _ _ _ c.loop-p-test.true c.loop-p.auto.p c.loop-p.invariant.0 c.has-reached.ensures c.with_page-loads.ensures,
  pages_more _ _ _ _ _ c.loop-p-test.true c.loop-p.auto.p c.loop-p.invariant.1 c.has-reached.ensures c.with_page-stores.ensures,
)

pub returns : goal.returns
returns c =
    (pages_whole _ _ _ _ _ c.loop-p-test.false c.loop-p.invariant.0, pages_whole _ _ _ _ _ c.loop-p-test.false c.loop-p.invariant.1)
