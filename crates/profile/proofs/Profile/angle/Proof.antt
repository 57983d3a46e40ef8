-- `profile::Profile::angle` meets its contract: each way out is a case of the definition, told by the tests on the way. Assumes nothing.
use lib.Ieee.{of_bits}
use Rattle.profile.specs.Profiles.{angle}
use Rattle.profile.proofs.Profile.angle.Statement.{statement}
use Rattle.profile.proofs.Profile.angle.Tie as tie

returns : tie.Need-returns-then-t-self
unfolding angle of_bits
returns c = rw c.if-t-self.true

returns_2 : tie.Need-returns-then-t-t_dec
unfolding angle of_bits
returns_2 c =
    rw (c.if-t-self.false, c.if-t-t_dec.true)

returns_3 : tie.Need-returns-else-t-t_dec
unfolding angle of_bits
returns_3 c =
    rw (c.if-t-self.false, c.if-t-t_dec.false)

pub angle_spec : {M : Type 1} → statement M
angle_spec = tie.close (tie.spec returns returns_2 returns_3)
