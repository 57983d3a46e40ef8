-- `forward::runs::steps_under` meets its contract: a sized map has rows wide enough for its parts, and the steps' own contract does the rest.
use lib.Ieee as Ieee
use Rattle.controls.specs.SizeLaws.{dim_sized}
use Rattle.forward.proofs.runs.steps_under.Goals as goal

pub steps_on-requires : goal.steps_on-requires
steps_on-requires c =
    let pre = c.requires in (
      rw (c.body_under-b.ensures, c.control_dim-n.ensures) (dim_sized _ _ pre.0.sized),
      (rw c.control_dim-n.ensures pre.0.narrow, (rw c.body_under-b.ensures pre.0.angles, (rw c.body_under-b.ensures pre.0.sound, pre.1))),
    )

pub returns : goal.returns
unfolding Ieee.of_bits
returns c =
    rw (← c.control_dim-n.ensures, ← c.body_under-b.ensures) c.steps_on.ensures
