-- `export_runs::rigs::slew_body_momentum` meets its contract, by the contracts of what it calls. Assumes nothing.
use borrow.Author.Rules.{rules}
use Rattle.export_runs.proofs.rigs.slew_body_momentum.Statement.{statement}
use Rattle.export_runs.proofs.rigs.slew_body_momentum.Tie as tie

returns : tie.Need-returns
returns c = rw (c.body_momentum.ensures, c.map_of-map.ensures)

pub slew_body_momentum_spec : {M : Type 1} → statement M
slew_body_momentum_spec = tie.close (tie.spec (λ c κs. search rules) (λ c κs. search rules) returns)
