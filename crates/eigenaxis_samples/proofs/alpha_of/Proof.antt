-- `eigenaxis_samples::alpha_of` meets its contract: each step is its definition's. Assumes nothing.
use lib.Ieee as Ieee
use Rattle.eigenaxis_samples.specs.Courses.{alpha_of}
use borrow.Author.Rules.{rules}
use Rattle.eigenaxis_samples.proofs.alpha_of.Statement.{statement}
use Rattle.eigenaxis_samples.proofs.alpha_of.Tie as tie

returns : tie.Need-returns
unfolding alpha_of Ieee.of_bits
returns c = rw c.steepest.ensures

pub alpha_of_spec : {M : Type 1} → statement M
alpha_of_spec = tie.close (tie.spec (search rules) returns)
