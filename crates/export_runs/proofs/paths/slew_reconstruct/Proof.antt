-- `export_runs::paths::slew_reconstruct` meets its contract: what it reads from the run's fate is the run's answer. Assumes nothing.
use Rattle.export_runs.specs.Told.{run_told}
use borrow.Author.Rules.{rules}
use Rattle.export_runs.proofs.paths.slew_reconstruct.Statement.{statement}
use Rattle.export_runs.proofs.paths.slew_reconstruct.Tie as tie

returns : tie.Need-returns
returns c =
    let is = rw c.problem_of-p.ensures at c.reconstruct-made.ensures in
    rw (← is) (run_told c.reconstruct-made.result c.place_of.ensures c.number_of.ensures c.rows.ensures)

pub slew_reconstruct_spec : {M : Type 1} → statement M
slew_reconstruct_spec =
    tie.close
    (tie.spec
    (λ c κs. search rules) (λ c κs. search rules) (λ c κs. search rules) (λ c κs. search rules) (λ c κs. search rules) returns)
