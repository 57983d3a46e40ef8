-- `equations` makes the definition's matrix and right side, and `solve_dense` solves them (`step_solved`).
use Rattle.std.proofs.Common.{◌∙◌, length}
use Rattle.damped_steps.specs.StepLaws.{step_solved}
use Rattle.damped_steps.proofs.damped_step.Goals as goal

pub returns : goal.returns
returns c =
    let a = c.args in
    let t = c.equations in
    let s = c.solve_dense in
    step_solved (length a.g.now) a.m _ a.v.now a.r.now a.lambda t.new.v t.new.g s.new.a s.new.b s.result
    t.auto.g (t.auto.v ∙ c.requires.2) t.ensures s.ensures
