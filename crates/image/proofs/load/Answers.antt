-- A broken image, memory that does not fit, and a good image that is laid.
use Rattle.image.proofs.Turns.{load_broken, load_done, load_misfits}
use Rattle.image.proofs.load.Goals as goal

-- the image is broken
pub returns-in-Err : goal.returns-in-Err
returns-in-Err c = load_broken _ _ c.judge.ensures c.in-Err.is c.refused.ensures

-- the memory does not fit
pub returns-then-mem-machine : goal.returns-then-mem-machine
returns-then-mem-machine c =
    load_misfits _ _ c.judge.ensures c.in-Ok.is c.if-mem-machine.true c.refused-then-mem-machine.ensures

-- all is well
pub returns : goal.returns
returns c = load_done _ _ c.judge.ensures c.in-Ok.is c.if-mem-machine.false c.lay.ensures
