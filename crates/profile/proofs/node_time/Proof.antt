-- `profile::node_time` meets its contract: each step is its definition's. Assumes nothing.
use borrow.Author.Rules.{rules}
use lib.Ieee.{of_bits}
use Rattle.profile.specs.Seeds.{node_time}
use Rattle.profile.proofs.node_time.Statement.{statement}
use Rattle.profile.proofs.node_time.Tie as tie

returns : tie.Need-returns
unfolding node_time of_bits
returns c = mathlib.Core.Path.refl

pub node_time_spec : {M : Type 1} → statement M
node_time_spec = tie.close (tie.spec (λ c. search rules) (λ c. search rules) returns)
