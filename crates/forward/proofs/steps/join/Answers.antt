-- A refused attitude stops the step, and a root of +0 is +0.
use Rattle.forward.specs.StepLaws.{rooted_stop}
use Rattle.forward.proofs.steps.join.Goals as goal

pub returns-in-Err : goal.returns-in-Err
returns-in-Err c = rw (c.stop.ensures, c.in-Err.is) (rooted_stop _ _ _)
