-- `profile::Profile::rate` meets its contract: each way out is a case of the definition, told by the tests on the way. Assumes nothing.
use Rattle.profile.specs.Profiles.{rate}
use Rattle.profile.proofs.Profile.rate.Statement.{statement}
use Rattle.profile.proofs.Profile.rate.Tie as tie

returns : tie.Need-returns-then-t-self
unfolding rate
returns c = rw c.if-t-self.true

returns_2 : tie.Need-returns-then-t-t_dec
unfolding rate
returns_2 c = rw (c.if-t-self.false, c.if-t-t_dec.true)

returns_3 : tie.Need-returns-else-t-t_dec
unfolding rate
returns_3 c = rw (c.if-t-self.false, c.if-t-t_dec.false)

pub rate_spec : {M : Type 1} → statement M
rate_spec = tie.close (tie.spec returns returns_2 returns_3)
