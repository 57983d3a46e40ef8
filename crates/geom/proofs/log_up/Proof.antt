-- `geom::log_up` meets its contract: each way out is a case of the definition, told by the tests on the way. Assumes nothing.
use borrow.Author.Rules.{rules}
use lib.Ieee.{of_bits, neg}
use Rattle.geom.specs.Quats.{log_at}
use Rattle.geom.proofs.log_up.Statement.{statement}
use Rattle.geom.proofs.log_up.Tie as tie

returns : tie.Need-returns-then-n
unfolding log_at of_bits
returns c =
    let norm3 = c.norm3-n in
    rw (← norm3.ensures, c.if-n.true)

returns_2 : tie.Need-returns-in-Some
unfolding log_at of_bits neg
returns_2 c =
    rw (← c.norm3-n.ensures, c.if-n.false, ← c.clamp.ensures, ← c.acos-half.ensures, c.in-Some.is)

returns_3 : tie.Need-returns-in-None
unfolding log_at of_bits neg
returns_3 c =
    rw (← c.norm3-n.ensures, c.if-n.false, ← c.clamp.ensures, ← c.acos-half.ensures, c.in-None.is)

pub log_up_spec : {M : Type 1} → statement M
log_up_spec =
    tie.close
    (tie.spec
    (λ c κs. search rules) returns (λ c κs. search rules) (λ c κs. search rules) (λ c. search rules) (λ c. search rules) returns_2 returns_3)
