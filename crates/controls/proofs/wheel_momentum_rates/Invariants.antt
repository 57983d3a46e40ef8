-- After i turns the first i rates are stored and the others are +0.
use Rattle.std.proofs.Common.{◌≡◌, length}
use Rattle.controls.specs.Controls as Controls
use Rattle.control_rows.specs.Stored as Stored
use Rattle.controls.proofs.wheel_momentum_rates.Given as goal

abbrev pub invariant-loop-i : goal.invariant-loop-i
invariant-loop-i l = (length l.out ≡ 8) × (l.out ≡ Stored.stored (Controls.rate_of l.u) l.initial.out l.i)
