-- `profile::Profile::quaternion` meets its contract: each way out is a case of the definition, told by the tests on the way. Assumes nothing.
use lib.Ieee.{of_bits}
use Rattle.geom.specs.HalvesLaws.{at_once_law}
use Rattle.profile.specs.Profiles.{quaternion}
use Rattle.profile.proofs.Profile.quaternion.Goals as goal

pub returns-in-Some : goal.returns-in-Some
unfolding quaternion of_bits
returns-in-Some c =
    rw (← at_once_law, ← c.angle.ensures, ← c.sin_cos-half.ensures, c.in-Some.is, c.mul.ensures)

pub returns-in-None : goal.returns-in-None
unfolding quaternion of_bits
returns-in-None c = rw (← at_once_law, ← c.angle.ensures, ← c.sin_cos-half.ensures, c.in-None.is)
