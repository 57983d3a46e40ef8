-- `samples::counts::spacing` meets its contract: each operation is the definition's, in its order, with the contract of `max`.
use lib.Ieee.{of_bits}
use Rattle.samples.specs.Counts.{spacing}
use Rattle.std.proofs.Common.{rules}
use Rattle.samples.proofs.counts.spacing.Statement.{statement}
use Rattle.samples.proofs.counts.spacing.Tie as tie

returns : tie.Need-returns
unfolding spacing of_bits
returns c = rw c.max.ensures

pub spacing_spec : {M : Type 1} → statement M
spacing_spec = tie.close (tie.spec (λ c κs. search rules) returns)
