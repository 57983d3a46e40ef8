-- `profile::with_alpha` meets its contract: each way out is a case of the definition, told by the tests on the way. Assumes nothing.
use borrow.Author.Rules.{rules}
use Rattle.profile.proofs.with_alpha.Statement.{statement}
use Rattle.profile.proofs.with_alpha.Tie as tie

returns : tie.Need-returns-in-None
returns c = rw (c.in-None.is, c.refused.ensures)

returns_2 : tie.Need-returns-in-Some
returns_2 c = rw (c.in-Some.is, c.with_switches.ensures, c.switch_times.ensures)

pub with_alpha_spec : {M : Type 1} → statement M
with_alpha_spec =
    tie.close
    (tie.spec
    (λ c. search rules) (λ c κs. search rules) (λ c. search rules) (λ c κs. search rules) (λ c κs. search rules) returns returns_2)
