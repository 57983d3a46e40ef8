-- `export_runs::rigs::slew_singularity` meets its contract, by the contracts of what it calls. Assumes nothing.
use borrow.Author.Rules.{rules}
use Rattle.export_runs.proofs.rigs.slew_singularity.Statement.{statement}
use Rattle.export_runs.proofs.rigs.slew_singularity.Tie as tie

returns : tie.Need-returns
returns c =
    rw (c.singularity.ensures, c.map_of-map.ensures) at c.put_measure.ensures

pub slew_singularity_spec : {M : Type 1} → statement M
slew_singularity_spec = tie.close (tie.spec (λ c κs. search rules) (λ c κs. search rules) (λ c κs. search rules) returns)
