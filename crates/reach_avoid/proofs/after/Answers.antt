use Rattle.std.proofs.Common.{◌/◌, ◌%◌, arith}
use Rattle.reach_avoid.specs.TableLaws.{after_in, after_out}
use Rattle.reach_avoid.proofs.after.Goals as goal

pub returns-then-r-lt3 : goal.returns-then-r-lt3
returns-then-r-lt3 c =
    let a = c.args in
    let out = c.then-r-lt3.either in
    after_out (a.k / 17) (a.k % 17) a.i a.j a.t.now (λ p q r s. omega arith)

pub returns : goal.returns
returns c =
    let a = c.args in
    after_in (a.k / 17) (a.k % 17) a.i a.j a.t.now (omega arith) (omega arith) (omega arith) (omega arith)
