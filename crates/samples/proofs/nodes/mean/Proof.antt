-- `samples::nodes::mean` meets its contract: two scalings and a sum, as in the definition.
use lib.Ieee.{of_bits}
use Rattle.samples.specs.Samples.{mean}
use Rattle.std.proofs.Common.{rules}
use Rattle.samples.proofs.nodes.mean.Statement.{statement}
use Rattle.samples.proofs.nodes.mean.Tie as tie

returns : tie.Need-returns
unfolding mean of_bits
returns c = rw (c.add3.ensures, c.scale3-2.ensures, c.scale3.ensures)

pub mean_spec : {M : Type 1} → statement M
mean_spec = tie.close (tie.spec (λ c κs. search rules) (λ c κs. search rules) (λ c κs. search rules) returns)
