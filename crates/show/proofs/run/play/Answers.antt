use Rattle.std.proofs.Common.{arith, refl, ap, ◌-◌}
use Rattle.std.proofs.lemmas.Result.{MatchResult-from_err}
use Rattle.std.proofs.lemmas.Bool.{not-true, not-false}
use mathlib.Core.Path.{◌∙◌}
use Rattle.model.specs.State.{State}
use Rattle.model.proofs.Typed.{typed_shaped}
use Rattle.show.proofs.Putting.{more_comes, all_told, end_of_run}
use Rattle.show.proofs.Reaching.{reached_none, run_reaches}
use Rattle.show.proofs.run.play.Goals as goal

pub loop-m-init : goal.loop-m-init
loop-m-init c =
    (refl, omega arith, refl, refl, reached_none _ _ c.args.budget)

pub returns-in_err-write_all-clause-err : goal.returns-in_err-write_all-clause-err
returns-in_err-write_all-clause-err c =
    let put = c.put_piece-piece.ensures in
    let shaped = typed_shaped c.args.machine (_, c.well_formed.1.0) in
    let now = run_reaches _ _ _ c.loop-m.invariant.4 shaped refl c.loop-m.invariant.1 put.within put.state in
    let used = c.args.budget - c.put_piece-piece.result.left in
    MatchResult-from_err _ _ _ c.from_residual.ensures.0 (λ e. (used, omega arith, ap (λ (s : State). s.memory) now))

pub returns-then-not-piece-clause-ok : goal.returns-then-not-piece-clause-ok
returns-then-not-piece-clause-ok c =
    all_told c.put_piece-piece.ensures.piece (not-true _ c.if-not-piece.true) ∙ c.loop-m.invariant.0 ∙ end_of_run _ _ _

pub loop-m-preserved : goal.loop-m-preserved
loop-m-preserved c =
    let put = c.put_piece-piece.ensures in
    let shaped = typed_shaped c.args.machine (_, c.well_formed.1.0) in (
      more_comes put.piece (not-false _ c.if-not-piece.false) ∙ c.loop-m.invariant.0,
      put.piece.within,
      c.put_piece-piece.auto.mem ∙ c.loop-m.invariant.2,
      c.put_piece-piece.auto.out ∙ c.loop-m.invariant.3,
      run_reaches _ _ _ c.loop-m.invariant.4 shaped refl c.loop-m.invariant.1 put.within put.state,
    )
