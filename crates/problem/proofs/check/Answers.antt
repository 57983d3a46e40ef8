use Rattle.problem.specs.Problems as Problems
use Rattle.problem.proofs.check.Goals as goal

pub returns-in-Err : goal.returns-in-Err
unfolding Problems.check
returns-in-Err c = rw (← c.prepare.ensures, c.in-Err.is) c.refused.ensures

pub returns-in-Ok : goal.returns-in-Ok
unfolding Problems.check
returns-in-Ok c = rw (← c.prepare.ensures, c.in-Ok.is) c.with_map.ensures
