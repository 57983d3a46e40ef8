-- The largest defect of a run begins at +0 and goes up: it is neither a NaN nor minus infinity, so that a test lets only a finite one pass. Assumes nothing.
use Rattle.std.specs.Prelude.{Bool, true, false, not, cond, T, Float}
use Rattle.std.specs.Float.{nan, inf, fin}
use Rattle.std.specs.Float.Ieee.{lt}
use Rattle.std.specs.Float.Ieee.Scale.{finite}
use Rattle.float.specs.Ops.{number, max}
use Rattle.float.specs.OpsLaws.{max_number}

-- neither a NaN nor minus infinity
abbrev pub grounded : Float → Bool
grounded nan = false
grounded (inf s) = not s
grounded (fin s m e) = true

above_grounded : (a b : Float) → T (lt a b) → T (grounded b)
unfolding lt
above_grounded nan b t = absurd t
above_grounded (inf s) nan t = t
above_grounded (inf true) (inf r) t = t
above_grounded (inf false) (inf r) t = absurd t
above_grounded (inf s) (fin r n d) t = tt
above_grounded (fin s m e) nan t = t
above_grounded (fin s m e) (inf r) t = t
above_grounded (fin s m e) (fin r n d) t = tt

grounded_number : (x : Float) → T (grounded x) → T (number x)
grounded_number nan t = absurd t
grounded_number (inf s) t = tt
grounded_number (fin s m e) t = tt

-- the larger of two, where the first is so
pub max_grounded : (a b : Float) → T (grounded a) → T (grounded (max a b))
max_grounded a b h = rw (max_number a b (grounded_number a h)) (go (lt a b) (λ t. t))
  where
    go : (c : Bool) → (T c → T (lt a b)) → T (grounded (cond c b a))
    go true t = above_grounded a b (t tt)
    go false t = h

-- such a number that is not above something finite is finite
pub grounded_finite : (x t : Float) → T (finite t) → T (grounded x) → T (not (lt t x)) → T (finite x)
unfolding lt
grounded_finite nan t f g h = g
grounded_finite (inf true) t f g h = g
grounded_finite (inf false) nan f g h = f
grounded_finite (inf false) (inf s) f g h = f
grounded_finite (inf false) (fin s m e) f g h = h
grounded_finite (fin s m e) t f g h = tt
