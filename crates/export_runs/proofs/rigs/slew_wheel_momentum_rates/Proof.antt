-- `export_runs::rigs::slew_wheel_momentum_rates` meets its contract, by the contracts of what it calls. Assumes nothing.
use borrow.Author.Rules.{rules}
use Rattle.export_runs.proofs.rigs.slew_wheel_momentum_rates.Statement.{statement}
use Rattle.export_runs.proofs.rigs.slew_wheel_momentum_rates.Tie as tie

returns : tie.Need-returns
returns c = rw (c.wheel_momentum_rates.ensures, c.map_of-map.ensures)

pub slew_wheel_momentum_rates_spec : {M : Type 1} → statement M
slew_wheel_momentum_rates_spec = tie.close (tie.spec (λ c κs. search rules) (λ c κs. search rules) returns)
