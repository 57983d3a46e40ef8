-- `geom::log_so3` meets its contract: each way out is a case of the definition, told by the tests on the way. Assumes nothing.
use borrow.Author.Rules.{rules}
use lib.Ieee.{of_bits}
use Rattle.geom.specs.Quats.{log_so3}
use Rattle.geom.proofs.log_so3.Statement.{statement}
use Rattle.geom.proofs.log_so3.Tie as tie

returns : tie.Need-returns-then-q
unfolding log_so3 of_bits
returns c = rw (c.log_up.ensures, c.negate.ensures, c.if-q.true)

returns_2 : tie.Need-returns-else-q
unfolding log_so3 of_bits
returns_2 c = rw (c.log_up-else-q.ensures, c.if-q.false)

pub log_so3_spec : {M : Type 1} → statement M
log_so3_spec = tie.close (tie.spec (λ c κs. search rules) (λ c κs. search rules) (λ c κs. search rules) returns returns_2)
