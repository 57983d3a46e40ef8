-- Taking sine and cosine at once is taking each. Assumes nothing.
use Rattle.std.specs.Prelude.{◌≡◌, refl, Float, Option, Some, None}
use Rattle.angles.specs.Angles.{sin_of, cos_of}
use Rattle.angles.specs.Both.{both, both_of}
use Rattle.geom.specs.Halves.{on_both, at_once}

on_each : {R : Type 0} (o : R) (f : Float → Float → R) (s c : Option Float) → at_once o f (both s c) ≡ on_both o f s c
on_each o f None c = refl
on_each o f (Some s) None = refl
on_each o f (Some s) (Some c) = refl

-- taking both at once is taking each
pub at_once_law : {R : Type 0} (o : R) (f : Float → Float → R) (x : Float) → at_once o f (both_of x) ≡ on_both o f (sin_of x) (cos_of x)
unfolding both_of
at_once_law o f x = on_each o f (sin_of x) (cos_of x)
