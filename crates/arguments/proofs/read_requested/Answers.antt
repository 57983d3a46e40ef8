-- A digit more is one turn of the definition's loop, and after a byte that is no digit no turn changes anything.
use borrow.Author.Tests.{ne_eqb}
use Rattle.std.proofs.Common.{◌∙◌, sym, ◌+◌, length, Some, refl, arith}
use Rattle.common.specs.IterLaws.{iter_none, iter_next, iter_stays}
use Rattle.arguments.specs.Requests.{turn, next, requested}
use Rattle.arguments.proofs.read_requested.Goals as goal

pub loop-b-init : goal.loop-b-init
loop-b-init c = iter_none (turn c.args.word.now) (Some 0)

pub loop-b-preserved : goal.loop-b-preserved
unfolding next
loop-b-preserved c =
    iter_next (turn c.args.word.now) (Some 0) c.loop-b.b-index c.loop-b.invariant (sym c.in_ok-n.was ∙ c.with_digit.ensures)

pub returns-in_err-n : goal.returns-in_err-n
unfolding next requested
returns-in_err-n c =
    let f = turn c.args.word.now in
    let k = c.loop-b.b-index in
    let e = iter_next f (Some 0) k c.loop-b.invariant (sym c.in_err-n.was ∙ c.with_digit.ensures) in
    rw (ne_eqb (length c.args.word.now) 0 (omega arith))
    (c.from_residual.ensures ∙ iter_stays f (Some 0) (k + 1) (length c.args.word.now) (omega arith) e (λ j. refl))
