-- `samples::nodes::time_of` meets its contract: each operation is the definition's, on the exact counts of `whole`.
use lib.Ieee.{of_bits}
use Rattle.std.proofs.Common.{rules}
use Rattle.samples.specs.Samples.{time_of}
use Rattle.samples.proofs.nodes.time_of.Statement.{statement}
use Rattle.samples.proofs.nodes.time_of.Tie as tie

returns : tie.Need-returns
unfolding time_of of_bits
returns c = rw (c.whole-2.ensures, c.whole.ensures)

pub time_of_spec : {M : Type 1} → statement M
time_of_spec = tie.close (tie.spec (λ c κs. search rules) (λ c κs. search rules) returns)
