-- `export_runs::paths::slew_residuals` meets its contract: what it reads from the residuals' fate is their answer. Assumes nothing.
use Rattle.export_runs.specs.Told.{residuals_told}
use borrow.Author.Rules.{rules}
use Rattle.export_runs.proofs.paths.slew_residuals.Statement.{statement}
use Rattle.export_runs.proofs.paths.slew_residuals.Tie as tie

returns : tie.Need-returns
returns c =
    let is = rw c.problem_of-p.ensures at c.residuals-measured.ensures in
    rw (← is) (residuals_told c.residuals-measured.result c.place_of.ensures c.number_of.ensures)

pub slew_residuals_spec : {M : Type 1} → statement M
slew_residuals_spec =
    tie.close
    (tie.spec
    (λ c κs. search rules) (λ c κs. search rules) (λ c κs. search rules) (λ c κs. search rules) returns)
