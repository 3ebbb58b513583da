-- `made`: each arm is what the call by its name does; those that leave memory alone do it over any memory.
use Rattle.calls.specs.Choice.{effect_of}
use Rattle.calls.proofs.made.Goals as goal

pub returns-in-Run : goal.returns-in-Run
unfolding effect_of
returns-in-Run c = rw c.in-Run.is (c.run.ensures c.args.mem.now)

pub returns-in-Yield : goal.returns-in-Yield
unfolding effect_of
returns-in-Yield c = rw c.in-Yield.is (c.yield_call.ensures c.args.mem.now)

pub returns-in-Poll : goal.returns-in-Poll
unfolding effect_of
returns-in-Poll c = rw c.in-Poll.is (c.poll.ensures c.args.mem.now)

pub returns-in-Wait : goal.returns-in-Wait
unfolding effect_of
returns-in-Wait c = rw c.in-Wait.is (c.wait.ensures c.args.mem.now)

pub returns-in-Retrieve : goal.returns-in-Retrieve
unfolding effect_of
returns-in-Retrieve c = rw c.in-Retrieve.is (c.retrieve.ensures c.args.mem.now)

pub returns-in-Relinquish : goal.returns-in-Relinquish
unfolding effect_of
returns-in-Relinquish c = rw c.in-Relinquish.is (c.relinquish.ensures c.args.mem.now)

pub returns-in-Reclaim : goal.returns-in-Reclaim
unfolding effect_of
returns-in-Reclaim c = rw c.in-Reclaim.is (c.reclaim.ensures c.args.mem.now)
