-- `export_runs::rigs::slew_power_excess` meets its contract, by the contracts of what it calls. Assumes nothing.
use borrow.Author.Rules.{rules}
use Rattle.export_runs.proofs.rigs.slew_power_excess.Statement.{statement}
use Rattle.export_runs.proofs.rigs.slew_power_excess.Tie as tie

returns : tie.Need-returns
returns c = rw (c.power_excess.ensures, c.map_of-map.ensures)

pub slew_power_excess_spec : {M : Type 1} → statement M
slew_power_excess_spec = tie.close (tie.spec (λ c κs. search rules) (λ c κs. search rules) returns)
