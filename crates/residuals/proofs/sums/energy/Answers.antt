use borrow.Author.Rules.{rules}
use Rattle.std.proofs.Common.{◌+◌, ◌<◌, ◌∙◌, ◌≡◌, refl, arith}
use Rattle.common.specs.IterLaws.{iter_next}
use Rattle.residuals.specs.Sums as Sums
use Rattle.residuals.specs.BeginLaws.{energy_turns}
use Rattle.residuals.proofs.sums.energy.Goals as goal

pub loop-i-init : goal.loop-i-init
loop-i-init c = c.requires.1

pub loop-i-preserved : goal.loop-i-preserved
loop-i-preserved c =
    let l = c.loop-i in
    let small : l.i < 16 = search rules in
    iter_next _ _ l.i l.invariant (c.energy_turn-sum.ensures ∙ energy_turns c.args.nodes.now c.args.dt l.i l.sum (omega (arith, small, c.requires.0.1)))

pub returns : goal.returns
unfolding Sums.energy
returns c =
    let all : c.loop-i.i ≡ 16 = search rules in
    rw all at c.loop-i.invariant
