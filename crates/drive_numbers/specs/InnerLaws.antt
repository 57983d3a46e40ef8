-- A sample's parts are inside where those of its rows are. Assumes nothing.
use Rattle.std.specs.Prelude.{◌≡◌, refl, Bool, true, false, ◌&&◌, List, [], ◌∷◌, ◌++◌, Option, ℤ}
use Rattle.std.proofs.Common.{ap, ◌∙◌}
use Rattle.samples.specs.declared.PathSample.{PathSample}
use Rattle.drive_numbers.specs.Drive.{inside, all, wholes, parts}
use Rattle.drive_numbers.specs.Inner.{attitude, vector}

pub and_true : (b : Bool) → b ≡ b && true
and_true true = refl
and_true false = refl

and_assoc : (a b c : Bool) → a && (b && c) ≡ (a && b) && c
and_assoc true b c = refl
and_assoc false b c = refl

all_join : (xs ys : List (Option ℤ)) → all (xs ++ ys) ≡ all xs && all ys
all_join [] ys = refl
all_join (x ∷ xs) ys = ap (λ (b : Bool). inside x && b) (all_join xs ys) ∙ and_assoc (inside x) (all xs) (all ys)

-- a sample's parts are inside where its rows' are
pub all_rows : (s : PathSample) → all (wholes (parts s)) ≡ all (attitude s.q) && (all (vector s.w) && (all (vector s.tau) && all (vector s.h)))
all_rows s =
    all_join (attitude s.q) (vector s.w ++ (vector s.tau ++ vector s.h))
    ∙ ap (λ (b : Bool). all (attitude s.q) && b)
    (all_join (vector s.w) (vector s.tau ++ vector s.h) ∙ ap (λ (b : Bool). all (vector s.w) && b) (all_join (vector s.tau) (vector s.h)))
