use Rattle.std.proofs.Common.{eq-eqb, ne_eqb, lt-ltb, le-ltb}
use Rattle.reference.specs.Layouts as Layouts
use Rattle.reference.proofs.layout.axes_layout.Goals as goal

pub returns-then-map-eq0-2 : goal.returns-then-map-eq0-2
unfolding Layouts.axes_layout Layouts.without_wheels
returns-then-map-eq0-2 c = rw (eq-eqb _ _ c.if-map-eq0.true, eq-eqb _ _ c.if-map-eq0-2.true, c.thruster_layout.ensures, c.body_limits.ensures, c.body_axes.ensures)

pub returns-then-map-lt3 : goal.returns-then-map-lt3
unfolding Layouts.axes_layout Layouts.without_wheels
returns-then-map-lt3 c = rw (eq-eqb _ _ c.if-map-eq0.true, ne_eqb _ _ c.if-map-eq0-2.false, lt-ltb _ _ c.if-map-lt3.true)

pub returns-then-map-eq0 : goal.returns-then-map-eq0
unfolding Layouts.axes_layout Layouts.without_wheels
returns-then-map-eq0 c = rw (eq-eqb _ _ c.if-map-eq0.true, ne_eqb _ _ c.if-map-eq0-2.false, le-ltb _ _ c.if-map-lt3.false, c.thruster_layout-then-map-eq0.ensures)

pub returns-then-map-gt0 : goal.returns-then-map-gt0
unfolding Layouts.axes_layout Layouts.with_wheels
returns-then-map-gt0 c = rw (ne_eqb _ _ c.if-map-eq0.false, lt-ltb _ _ c.if-map-gt0.true)

pub returns-then-map-lt3-2 : goal.returns-then-map-lt3-2
unfolding Layouts.axes_layout Layouts.with_wheels
returns-then-map-lt3-2 c = rw (ne_eqb _ _ c.if-map-eq0.false, le-ltb _ _ c.if-map-gt0.false, lt-ltb _ _ c.if-map-lt3-2.true)

pub returns : goal.returns
unfolding Layouts.axes_layout Layouts.with_wheels
returns c = rw (ne_eqb _ _ c.if-map-eq0.false, le-ltb _ _ c.if-map-gt0.false, le-ltb _ _ c.if-map-lt3-2.false, c.wheel_layout.ensures)
