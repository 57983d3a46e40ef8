-- `profile::limited` meets its contract: each way out is a branch of the definition. Assumes nothing.
use Rattle.std.proofs.Common.{sym, ◌∙◌}
use borrow.Author.Rules.{rules}
use Rattle.profile.specs.Profiles.{limited}
use Rattle.profile.proofs.limited.Statement.{statement}
use Rattle.profile.proofs.limited.Tie as tie

returns : tie.Need-returns-then-not-is_positive
unfolding limited
returns c = rw ((sym c.is_positive.ensures ∙ c.if-not-is_positive.true))

returns_2 : tie.Need-returns-then-peak-limit
unfolding limited
returns_2 c = rw ((sym c.is_positive.ensures ∙ c.if-not-is_positive.false), c.if-peak-limit.true)

returns_3 : tie.Need-returns
unfolding limited
returns_3 c = rw ((sym c.is_positive.ensures ∙ c.if-not-is_positive.false), c.if-peak-limit.false, c.coasting.ensures)

pub limited_spec : {M : Type 1} → statement M
limited_spec = tie.close (tie.spec (λ c κs. search rules) returns returns_2 (λ c κs. search rules) returns_3)
