-- `sound::records::free_rows` meets its contract: what the loop keeps from turn to turn is what the definition says.
use Rattle.std.proofs.Common.{rules}
use Rattle.model.specs.State.{record_at}
use Rattle.parts.proofs.Loops.{set_more, set_none, set_whole}
use Rattle.sound.proofs.Asked.{owner_below}
use Rattle.sound.specs.Rows.{free_rows}
use Rattle.sound.proofs.records.free_rows.Goals as goal

pub loop-p-init : goal.loop-p-init
loop-p-init c = set_none _ _ _

pub free_row-requires : goal.free_row-requires
unfolding record_at
free_row-requires c = owner_below _ _ c.args.records.now c.requires.2 c.requires.0 c.loop-p.p c.loop-p-test.true

pub loop-p-preserved : goal.loop-p-preserved
unfolding record_at
loop-p-preserved c = rw c.free_row.ensures (set_more _ _ _ _ c.loop-p.invariant)

pub returns : goal.returns
unfolding free_rows
returns c = record {
  rows = set_whole _ _ _ c.loop-p.auto.p-end c.loop-p-test.false c.loop-p.invariant;
  places = search rules;
}
