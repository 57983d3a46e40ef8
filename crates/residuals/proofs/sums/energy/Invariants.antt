-- After the turns below i the sum is that over the first i steps.
use Rattle.std.proofs.Common.{◌≡◌}
use Rattle.forward.specs.Rows.{nodes_from}
use Rattle.residuals.specs.Sums as Sums
use Rattle.residuals.proofs.sums.energy.Given as goal

abbrev pub invariant-loop-i : goal.invariant-loop-i
invariant-loop-i l = l.sum ≡ Sums.energy_over (nodes_from l.nodes) l.dt l.i
