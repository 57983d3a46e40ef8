-- `gimbal_angles::put_angle` meets its contract: the pair is that of the angle that is put, x or 0, and the places before it stay (`filled_more`).
use mathlib.Core.Path.{sym, ◌∙◌}
use lib.Ieee as Ieee
use Rattle.gimbal_angles.specs.KnownLaws.{zero_pair, filled_more}
use Rattle.gimbal_angles.proofs.put_angle.Goals as goal

pub returns-in-Some : goal.returns-in-Some
returns-in-Some c =
    rw c.put_place.ensures (filled_more _ _ _ _ _ c.requires.0 (sym c.sin_cos.ensures ∙ c.in-Some.is) c.requires.1)

pub returns-in-None : goal.returns-in-None
unfolding Ieee.of_bits
returns-in-None c =
    rw c.put_place-in-None.ensures (filled_more _ _ _ _ _ c.requires.0 zero_pair c.requires.1)
