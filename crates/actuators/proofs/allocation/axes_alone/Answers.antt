use lib.Ieee as Ieee
use Rattle.actuators.specs.Allocate as Allocate
use Rattle.actuators.proofs.allocation.axes_alone.Goals as goal

pub returns-then-alone : goal.returns-then-alone
unfolding Allocate.axes_alone Ieee.of_bits Ieee.neg
returns-then-alone c =
    rw (← c.alone.ensures, c.if-alone.true, c.along_axes.ensures, c.scale3.ensures, c.columns.ensures)

pub returns-then-alone-2 : goal.returns-then-alone-2
unfolding Allocate.axes_alone
returns-then-alone-2 c =
    rw (← c.alone.ensures, c.if-alone.false, ← c.alone-2.ensures, c.if-alone-2.true, c.along_axes-then-alone-2.ensures, c.columns-then-alone-2.ensures)

pub returns : goal.returns
unfolding Allocate.axes_alone
returns c =
    rw (← c.alone.ensures, c.if-alone.false, ← c.alone-2.ensures, c.if-alone-2.false)
