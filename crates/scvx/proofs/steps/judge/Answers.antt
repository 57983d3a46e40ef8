-- `scvx::steps::judge` meets its contract: the comparison of the two lengths decides (`judge_taken`, `judge_left`); what is known of a decision goes with it.
use lib.Ieee as Ieee
use Rattle.scvx.specs.ProgressInner.{stands_new}
use Rattle.scvx.specs.StepLaws.{judge_taken, judge_left}
use Rattle.scvx.proofs.steps.judge.Goals as goal

pub returns-then-t-s : goal.returns-then-t-s
unfolding Ieee.of_bits
returns-then-t-s c = (
  rw (c.move_to.ensures, c.max.ensures) (judge_taken c.args.g.state c.args.t c.if-t-s.true),
  λ p k j a h. rw c.move_to.ensures (stands_new k),
)

pub returns : goal.returns
unfolding Ieee.of_bits
returns c =
    let if1 = c.if-t-s in (
      rw (c.with_state.ensures, c.with_damping.ensures, c.min.ensures) (judge_left c.args.g.state c.args.t if1.false),
      λ p k j a h. rw (c.with_state.ensures, c.with_damping.ensures) h,
    )
