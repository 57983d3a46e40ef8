use Rattle.std.proofs.Common.{◌∙◌}
use Rattle.reference.specs.CaseLaws.{layout_axes}
use Rattle.reference.specs.Layouts as Layouts
use Rattle.reference.proofs.layout.layout_of.Goals as goal

pub returns-in-Some : goal.returns-in-Some
unfolding Layouts.layout_of
returns-in-Some c = rw c.in-Some.is

pub returns : goal.returns
returns c = c.axes_layout.ensures ∙ layout_axes _ _ _ c.in_default.is
