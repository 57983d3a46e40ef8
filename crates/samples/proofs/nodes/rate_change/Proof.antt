-- `samples::nodes::rate_change` meets its contract: the difference, scaled, as in the definition.
use lib.Ieee.{of_bits}
use Rattle.samples.specs.Samples.{rate_change}
use Rattle.std.proofs.Common.{rules}
use Rattle.samples.proofs.nodes.rate_change.Statement.{statement}
use Rattle.samples.proofs.nodes.rate_change.Tie as tie

returns : tie.Need-returns
unfolding rate_change of_bits
returns c = rw (c.scale3.ensures, c.sub3.ensures)

pub rate_change_spec : {M : Type 1} → statement M
rate_change_spec = tie.close (tie.spec (λ c κs. search rules) (λ c κs. search rules) returns)
