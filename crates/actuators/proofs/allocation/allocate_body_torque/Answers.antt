use Rattle.std.proofs.Common.{Option, ◌∙◌, sym, ap}
use Rattle.actuators.specs.declared.CmgPyramid.{CmgPyramid}
use Rattle.actuators.specs.Allocate as Allocate
use Rattle.actuators.proofs.allocation.allocate_body_torque.Goals as goal

pub returns-then-is_empty : goal.returns-then-is_empty
unfolding Allocate.allocate
returns-then-is_empty c = rw (← c.is_empty.ensures, c.if-is_empty.true, c.three.ensures)

pub returns-in_default : goal.returns-in_default
unfolding Allocate.allocate
returns-in_default c =
    rw (← c.is_empty.ensures, c.if-is_empty.false) (c.axes_alone.ensures ∙ sym (ap (λ (x : Option CmgPyramid). Allocate.served_by x c.args.map c.args.tau) c.in_default.is))

pub returns-then-map : goal.returns-then-map
unfolding Allocate.allocate
returns-then-map c =
    rw (← c.is_empty.ensures, c.if-is_empty.false, c.in-Some.is, c.if-map.true) c.pyramid_alone.ensures

pub returns-else-map : goal.returns-else-map
unfolding Allocate.allocate
returns-else-map c =
    rw (← c.is_empty.ensures, c.if-is_empty.false, c.in-Some.is, c.if-map.false)
