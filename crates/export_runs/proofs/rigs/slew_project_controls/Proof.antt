-- `export_runs::rigs::slew_project_controls` meets its contract, by the contracts of what it calls. Assumes nothing.
use borrow.Author.Rules.{rules}
use Rattle.export_runs.proofs.rigs.slew_project_controls.Statement.{statement}
use Rattle.export_runs.proofs.rigs.slew_project_controls.Tie as tie

returns : tie.Need-returns
returns c =
    let map_of = c.map_of-map in
    rw (c.project_controls.ensures, map_of.ensures)

pub slew_project_controls_spec : {M : Type 1} → statement M
slew_project_controls_spec = tie.close (tie.spec (λ c κs. search rules) (λ c κs. search rules) (λ c. search rules) returns)
