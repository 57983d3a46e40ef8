-- The two cases of the skew's sine and cosine; a table with no place knows nothing wrong.
use borrow.Author.Rules.{rules}
use Rattle.std.specs.Prelude.{Some}
use Rattle.gimbal_angles.specs.KnownLaws.{none_known}
use Rattle.forward.specs.GimbalStartInner as GimbalStartInner
use Rattle.forward.proofs.runs.start_pyramid.Goals as goal

pub pyramid_known-requires : goal.pyramid_known-requires
pyramid_known-requires c = none_known (Some c.args.p)

pub returns-in_default : goal.returns-in_default
unfolding GimbalStartInner.start_gimbals
returns-in_default c = rw (← c.sin_cos.ensures, c.in_default.is)

pub returns-in_err-a : goal.returns-in_err-a
unfolding GimbalStartInner.start_gimbals
returns-in_err-a c = rw (← c.sin_cos.ensures, c.in-Some.is, ← c.pyramid_known.ensures, c.in_err-a.was) (search rules)

pub returns : goal.returns
unfolding GimbalStartInner.start_gimbals
returns c = rw (← c.sin_cos.ensures, c.in-Some.is, ← c.pyramid_known.ensures, c.in_ok-a.was)
