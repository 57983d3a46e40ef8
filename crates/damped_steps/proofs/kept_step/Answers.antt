-- The equations of the Gram matrix that was kept are the columns', and `solve_dense` solves them (`step_solved`).
use Rattle.std.proofs.Common.{ℕ, ◌*◌, ◌≤◌, ◌∙◌, length, length-take-le, arith}
use Rattle.normal_equations.specs.RowsLaws.{rows_take}
use Rattle.damped_steps.specs.StepLaws.{step_solved}
use Rattle.damped_steps.proofs.kept_step.Goals as goal

pub kept_equations-requires : goal.kept_equations-requires
kept_equations-requires c =
    let a = c.args in
    let n : ℕ = length a.g.now in
    let h : n * n ≤ length a.gram.now = omega arith in
    (c.requires.0, c.requires.1, c.requires.2, length-take-le (n * n) a.gram.now h, rows_take n n a.gram.now h ∙ c.requires.3 h)

pub returns : goal.returns
returns c =
    let a = c.args in
    let t = c.kept_equations in
    let s = c.solve_dense in
    step_solved (length a.g.now) a.m _ a.v.now a.r.now a.lambda t.new.v t.new.g s.new.a s.new.b s.result
    t.auto.g (t.auto.v ∙ c.requires.2) t.ensures s.ensures
