-- A table has at most 12 axes. Assumes nothing.
use Rattle.std.specs.Prelude.{◌≤◌, ◌≡◌, Bool, true, false, cond, List, eqb, ltb, leb, Float, Option, Some, None, IfOk}
use native.Mathlib.Omega.{arith}
use Rattle.std.proofs.Common.{leb-true}
use Rattle.actuators.specs.Maps.{is_sized}
use Rattle.actuators.specs.declared.ActuatorMap.{ActuatorMap}
use Rattle.reference.specs.declared.layout.Layout.{Layout}
use Rattle.reference_checks.specs.ExactLaws.{and_both}
use Rattle.reference.specs.Layouts as Layouts
use Rattle.actuators.specs.declared.CmgPyramid.{CmgPyramid}

-- what is said of a table, where there is one
abbrev Few : Layouts.Made → Type 0
Few x = IfOk x (λ (l : Layout). l.count ≤ 12)

either : (b : Bool) (x y : Layouts.Made) → Few x → Few y → Few (cond b x y)
either true x y p q = p
either false x y p q = q

module _ (m : ActuatorMap) (momenta box : List Float) (w : m.wheel_count ≤ 8) (t : m.thruster_count ≤ 12) where
  axes_few : Few (Layouts.axes_layout m momenta box)
  unfolding Layouts.axes_layout Layouts.without_wheels Layouts.with_wheels Layouts.thruster_layout Layouts.wheel_layout
  axes_few =
      either (eqb m.wheel_count 0) _ _
      (either (eqb m.thruster_count 0) _ _ (omega arith) (either (ltb m.thruster_count 3) _ _ tt (omega arith)))
      (either (ltb 0 m.thruster_count) _ _ tt (either (ltb m.wheel_count 3) _ _ tt (omega arith)))

  by_gyros : (g : Option CmgPyramid) → Few (Layouts.layout_by g m momenta box)
  by_gyros (Some p) = tt
  by_gyros None = axes_few

pub table_few : (m : ActuatorMap) (momenta box : List Float) → is_sized m ≡ true → IfOk (Layouts.layout_of m momenta box) (λ (l : Layout). l.count ≤ 12)
unfolding Layouts.layout_of is_sized
table_few m momenta box e =
    let s = and_both (leb m.wheel_count 8) (leb m.thruster_count 12) e in
    by_gyros m momenta box (leb-true _ _ s.0) (leb-true _ _ s.1) m.cmgs
