-- `profile::with_theta` meets its contract: it is refused, or goes on, where the definition does. Assumes nothing.
use Rattle.std.proofs.Common.{sym, ◌∙◌}
use borrow.Author.Rules.{rules}
use Rattle.profile.specs.Profiles.{with_theta}
use Rattle.profile.proofs.with_theta.Statement.{statement}
use Rattle.profile.proofs.with_theta.Tie as tie

returns : tie.Need-returns-then-not-is_positive
unfolding with_theta
returns c = rw (c.refused.ensures, (sym c.is_positive.ensures ∙ c.if-not-is_positive.true))

returns_2 : tie.Need-returns
unfolding with_theta
returns_2 c = rw (c.with_alpha.ensures, c.alpha_from_box.ensures, (sym c.is_positive.ensures ∙ c.if-not-is_positive.false))

pub with_theta_spec : {M : Type 1} → statement M
with_theta_spec = tie.close (tie.spec (λ c κs. search rules) (λ c κs. search rules) returns (λ c κs. search rules) (λ c κs. search rules) returns_2)
