-- `profile::relative` meets its contract: each way out is a case of the definition, told by the tests on the way. Assumes nothing.
use borrow.Author.Rules.{rules}
use lib.Ieee.{of_bits}
use Rattle.profile.specs.Profiles.{relative}
use Rattle.profile.proofs.relative.Statement.{statement}
use Rattle.profile.proofs.relative.Tie as tie

returns : tie.Need-returns-then-dot
unfolding relative of_bits
returns c =
    let dot = c.dot in
    rw (c.mul.ensures, c.negate.ensures, c.conjugate.ensures, ← dot.ensures, c.if-dot.true)

returns_2 : tie.Need-returns-else-dot
unfolding relative of_bits
returns_2 c = rw (c.mul-else-dot.ensures, c.conjugate-else-dot.ensures, ← c.dot.ensures, c.if-dot.false)

pub relative_spec : {M : Type 1} → statement M
relative_spec =
    tie.close
    (tie.spec
    (λ c κs. search rules) (λ c κs. search rules) (λ c κs. search rules) (λ c κs. search rules) (λ c κs. search rules) (λ c κs. search rules) returns
    returns_2)
