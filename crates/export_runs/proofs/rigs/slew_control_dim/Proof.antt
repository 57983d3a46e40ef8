-- `export_runs::rigs::slew_control_dim` meets its contract, by the contracts of what it calls. Assumes nothing.
use borrow.Author.Rules.{rules}
use Rattle.export_runs.proofs.rigs.slew_control_dim.Statement.{statement}
use Rattle.export_runs.proofs.rigs.slew_control_dim.Tie as tie

returns : tie.Need-returns
returns c = rw (c.control_dim.ensures, c.map_of-map.ensures)

pub slew_control_dim_spec : {M : Type 1} → statement M
slew_control_dim_spec = tie.close (tie.spec (λ c κs. search rules) (λ c κs. search rules) returns)
