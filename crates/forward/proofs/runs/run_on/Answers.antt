-- `forward::runs::run_on` meets its contract: the steps up to the 16th, and the last node set. Assumes nothing.
use native.Mathlib.Omega.{arith}
use lib.Ieee as Ieee
use Rattle.forward.specs.PartLaws.{ran_refused, ran_going}
use Rattle.forward.proofs.runs.run_on.Goals as goal

pub steps_under-w-requires : goal.steps_under-w-requires
steps_under-w-requires c = let pre = c.requires in (pre.0, (pre.1, omega arith))

pub returns-in-Err : goal.returns-in-Err
returns-in-Err c = ran_refused _ _ _ _ _ _ c.requires.1 c.steps_under-w.ensures c.in-Err.is

pub returns : goal.returns
unfolding Ieee.of_bits
returns c =
    ran_going _ _ _ _ _ _ c.requires.1 c.steps_under-w.ensures c.node_row-last.result c.torque_in-tau.ensures c.node_row-last.ensures
