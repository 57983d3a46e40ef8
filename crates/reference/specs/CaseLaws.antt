-- A map without a pyramid. Assumes nothing.
use Rattle.std.specs.Prelude.{◌≡◌, List, Float, Option, None}
use Rattle.std.proofs.Common.{sym, ap}
use Rattle.actuators.specs.declared.ActuatorMap.{ActuatorMap}
use Rattle.reference.specs.Layouts as Layouts
use Rattle.actuators.specs.declared.CmgPyramid.{CmgPyramid}

pub layout_axes : (m : ActuatorMap) (momenta box : List Float) → m.cmgs ≡ None → Layouts.axes_layout m momenta box ≡ Layouts.layout_of m momenta box
unfolding Layouts.layout_of
layout_axes m momenta box e = ap (λ (g : Option CmgPyramid). Layouts.layout_by g m momenta box) (sym e)
