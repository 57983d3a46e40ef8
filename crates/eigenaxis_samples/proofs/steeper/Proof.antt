-- `eigenaxis_samples::steeper` meets its contract: each step is its definition's. Assumes nothing.
use lib.Ieee as Ieee
use Rattle.eigenaxis_samples.specs.Courses.{steeper}
use borrow.Author.Rules.{rules}
use Rattle.eigenaxis_samples.proofs.steeper.Statement.{statement}
use Rattle.eigenaxis_samples.proofs.steeper.Tie as tie

returns : tie.Need-returns
unfolding steeper Ieee.of_bits
returns c = rw (c.max.ensures, c.norm3-x.ensures, c.scale3.ensures, c.sub3.ensures)

pub steeper_spec : {M : Type 1} → statement M
steeper_spec = tie.close (tie.spec (search rules) (search rules) (search rules) (search rules) returns)
