-- `gram_matrix` makes the matrix behind the columns, and its copy has as many rows.
use Rattle.std.proofs.Common.{◌*◌, ◌∙◌, length-take-le, arith}
use Rattle.damped_steps.specs.StepLaws.{gram_copied}
use Rattle.damped_steps.proofs.keep_gram.Goals as goal

pub returns : goal.returns
returns c =
    let a = c.args in
    let t = c.gram_matrix in
    let s = c.copy in
    (t.ensures.0, gram_copied a.n a.m _ t.new.v s.new.to _ (s.auto.to ∙ length-take-le (a.n * a.n) a.gram.now (omega arith)) s.ensures t.ensures.1)
