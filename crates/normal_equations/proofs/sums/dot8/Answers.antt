use Rattle.std.proofs.Common.{refl}
use Rattle.common.specs.IterLaws.{iter_none, iter_next}
use Rattle.normal_equations.proofs.sums.dot8.Goals as goal

pub loop-i-init : goal.loop-i-init
loop-i-init c = (iter_none _ _, iter_none _ _, iter_none _ _, iter_none _ _, iter_none _ _, iter_none _ _, iter_none _ _, iter_none _ _)

pub loop-i-preserved : goal.loop-i-preserved
loop-i-preserved c = let l = c.loop-i in (
  iter_next _ _ l.i l.invariant.0 refl,
  iter_next _ _ l.i l.invariant.1 refl,
  iter_next _ _ l.i l.invariant.2 refl,
  iter_next _ _ l.i l.invariant.3 refl,
  iter_next _ _ l.i l.invariant.4 refl,
  iter_next _ _ l.i l.invariant.5 refl,
  iter_next _ _ l.i l.invariant.6 refl,
  iter_next _ _ l.i l.invariant.7 refl,
)
