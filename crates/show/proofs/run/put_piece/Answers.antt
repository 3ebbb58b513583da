use Rattle.std.proofs.Common.{arith, refl, ◌∙◌}
use mathlib.Core.Bool.{false≢true}
use Rattle.model.proofs.Typed.{typed_shaped}
use Rattle.show.specs.Told.{piece_then}
use Rattle.show.proofs.Reaching.{reached_none, leg_reaches}
use Rattle.show.proofs.Putting.{begins, gone, goes_on, ends}
use Rattle.show.proofs.run.put_piece.Goals as goal

pub loop-out-init : goal.loop-out-init
loop-out-init c = (
  begins _ _ _ _ _ (typed_shaped c.args.machine (_, c.well_formed.0)) c.requires.0,
  refl,
  reached_none _ _ c.args.left,
  refl,
)

pub overflow_sub-piece : goal.overflow_sub-piece
overflow_sub-piece c = (gone c.loop-out.invariant.0 c.run_to_call-leg.ensures).taken

pub returns-in_default-clause-piece : goal.returns-in_default-clause-piece
unfolding piece_then
returns-in_default-clause-piece c =
    let putting = c.loop-out.invariant.0 in
    let laid = c.put_end-end.ensures.laid in
    record {
      inside = laid.within;
      within = omega (arith, putting.within);
      less = λ e. absurd (false≢true e);
      whole = ends putting c.run_to_call-leg.ensures c.in_default.is laid;
    }

pub returns-in_default-clause-state : goal.returns-in_default-clause-state
returns-in_default-clause-state c =
    let putting = c.loop-out.invariant.0 in
    let taken = (gone putting c.run_to_call-leg.ensures).taken in
    leg_reaches _ _ _ c.loop-out.invariant.2 refl putting.most c.run_to_call-leg.ensures taken

pub put_call-requires : goal.put_call-requires
put_call-requires c =
    let putting = c.loop-out.invariant.0 in
    let called = (gone putting c.run_to_call-leg.ensures).called _ _ c.in-Some.is in
    (omega (arith, putting.inside, putting.long, c.loop-out-test.true), called.1)

pub loop-out-smaller : goal.loop-out-smaller
loop-out-smaller c =
    let turn = gone c.loop-out.invariant.0 c.run_to_call-leg.ensures in
    omega (arith, turn.taken, (turn.called _ _ c.in-Some.is).0)

pub loop-out-preserved : goal.loop-out-preserved
loop-out-preserved c =
    let putting = c.loop-out.invariant.0 in
    let taken = (gone putting c.run_to_call-leg.ensures).taken in (
      goes_on putting c.run_to_call-leg.ensures c.in-Some.is c.put_call.ensures,
      c.run_to_call-leg.auto.mem ∙ c.loop-out.invariant.1,
      leg_reaches _ _ _ c.loop-out.invariant.2 refl putting.most c.run_to_call-leg.ensures taken,
      c.loop-out.invariant.3,
    )
