-- `problem::with_map` meets its contract: each way out is a case of the definition, told by the tests on the way. Assumes nothing.
use Rattle.std.proofs.Common.{sym, ◌∙◌}
use Rattle.problem.specs.Problems as Problems
use Rattle.problem.proofs.with_map.Goals as goal

pub returns-then-not-numbers_fit : goal.returns-then-not-numbers_fit
unfolding Problems.with_map
returns-then-not-numbers_fit c = rw ((sym c.numbers_fit.ensures ∙ c.if-not-numbers_fit.true)) c.refused.ensures

pub returns-in-Err : goal.returns-in-Err
unfolding Problems.with_map
returns-in-Err c =
    rw ((sym c.numbers_fit.ensures ∙ c.if-not-numbers_fit.false), ← c.check_starts-fate.ensures, c.in-Err.is) c.refused-in-Err.ensures

pub returns-in-Ok : goal.returns-in-Ok
unfolding Problems.with_map
returns-in-Ok c =
    rw ((sym c.numbers_fit.ensures ∙ c.if-not-numbers_fit.false), ← c.check_starts-fate.ensures, c.in-Ok.is) c.with_starts.ensures
