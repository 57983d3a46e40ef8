-- `profile::Profile::alpha_signed` meets its contract: each way out is a case of the definition, told by the tests on the way. Assumes nothing.
use lib.Ieee.{of_bits}
use Rattle.profile.specs.Profiles.{alpha_signed}
use Rattle.profile.proofs.Profile.alpha_signed.Statement.{statement}
use Rattle.profile.proofs.Profile.alpha_signed.Tie as tie

returns : tie.Need-returns-then-t-self
unfolding alpha_signed of_bits
returns c = rw c.if-t-self.true

returns_2 : tie.Need-returns-then-t-t_dec
unfolding alpha_signed of_bits
returns_2 c = rw (c.if-t-self.false, c.if-t-t_dec.true)

returns_3 : tie.Need-returns-then-t-self-2
unfolding alpha_signed of_bits
returns_3 c =
    let if1 = c.if-t-self in
    rw (if1.false, c.if-t-t_dec.false, c.if-t-self-2.true)

returns-4 : tie.Need-returns-else-t-self-2
unfolding alpha_signed of_bits
returns-4 c = rw (c.if-t-self.false, c.if-t-t_dec.false, c.if-t-self-2.false)

pub alpha_signed_spec : {M : Type 1} → statement M
alpha_signed_spec = tie.close (tie.spec returns returns_2 returns_3 returns-4)
