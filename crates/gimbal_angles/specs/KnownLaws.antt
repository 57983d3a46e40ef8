-- An empty table is right, and one more angle keeps a table so. Assumes nothing.
use Rattle.std.specs.Prelude.{ℕ, ◌+◌, ◌*◌, ◌≤◌, ◌<◌, ◌≡◌, refl, List, [], length, set, Float, Option, Some, None}
use Rattle.std.proofs.Common.{sym, ◌∙◌, arith, length-set, get_or-set_same, get_or-set_other, below_more}
use Rattle.std.specs.Float.Ieee as Ieee
use Rattle.std.specs.Float.{nan}
use Rattle.common.specs.Floats.{plus_zero, one}
use Rattle.common.specs.Lists.{at}
use Rattle.angles.specs.Angles as Angles
use Rattle.angles.specs.Both.{both_of}
use Rattle.gimbal_angles.specs.Known.{RightAt, Right, KnownOf, Filled, placed}
use Rattle.actuators.specs.declared.CmgPyramid.{CmgPyramid}

-- a table with no place
pub none_known : (c : Option CmgPyramid) → KnownOf c []
none_known None = tt
none_known (Some p) = λ i h. absurd (omega (arith, h))

-- the angle 0
pub zero_pair : both_of plus_zero ≡ Some (plus_zero, one)
unfolding both_of Angles.sin_of Angles.cos_of Angles.region_of Angles.in_range Angles.tiny Ieee.of_bits Ieee.le Ieee.lt Ieee.neg
zero_pair = refl

-- x is the angle of gimbal g after step k
pub looked_up : (t : List Float) (k g : ℕ) (x : Float) → Right t → length t ≡ 192 → k < 16 → g < 4 → x ≡ at t (12 * k + 3 * g) → Some (at t (12 * k + 3 * g + 1), at t (12 * k + 3 * g + 2)) ≡ both_of x
looked_up t k g x r n a b e =
    let i : 3 * (4 * k + g) ≡ 12 * k + 3 * g = omega arith in
    rw e (sym (rw i at (r (4 * k + g) (omega arith))))

-- ---- place i set
module _ (t : List Float) (i : ℕ) (x s c : Float) where
  other : (j : ℕ) → (j ≡ 3 * i → ⊥) → (j ≡ 3 * i + 1 → ⊥) → (j ≡ 3 * i + 2 → ⊥) → at (placed t i x s c) j ≡ at t j
  other j a b d =
      get_or-set_other (set (set t (3 * i) x) (3 * i + 1) s) (3 * i + 2) j c nan d
      ∙ (get_or-set_other (set t (3 * i) x) (3 * i + 1) j s nan b ∙ get_or-set_other t (3 * i) j x nan a)

  module _ (fits : 3 * i + 3 ≤ length t) where
    first : at (placed t i x s c) (3 * i) ≡ x
    first =
        get_or-set_other (set (set t (3 * i) x) (3 * i + 1) s) (3 * i + 2) (3 * i) c nan (λ e. omega arith)
        ∙ (get_or-set_other (set t (3 * i) x) (3 * i + 1) (3 * i) s nan (λ e. omega arith) ∙ get_or-set_same t (3 * i) x nan (omega arith))

    second : at (placed t i x s c) (3 * i + 1) ≡ s
    second =
        get_or-set_other (set (set t (3 * i) x) (3 * i + 1) s) (3 * i + 2) (3 * i + 1) c nan (λ e. omega arith)
        ∙ get_or-set_same (set t (3 * i) x) (3 * i + 1) s nan (omega (arith, length-set t (3 * i) x))

    third : at (placed t i x s c) (3 * i + 2) ≡ c
    third =
        get_or-set_same (set (set t (3 * i) x) (3 * i + 1) s) (3 * i + 2) c nan
        (omega (arith, length-set (set t (3 * i) x) (3 * i + 1) s, length-set t (3 * i) x))

  -- an angle with its sine and cosine is right there, and the places before it stay
  pub filled_more : i < 64 → both_of x ≡ Some (s, c) → Filled i t → Filled (i + 1) (placed t i x s c)
  filled_more m e f =
      let fits : 3 * i + 3 ≤ length t = omega (arith, m, f.long) in
      record {
        long = length-set (set (set t (3 * i) x) (3 * i + 1) s) (3 * i + 2) c ∙ (length-set (set t (3 * i) x) (3 * i + 1) s ∙ (length-set t (3 * i) x ∙ f.long));
        right = below_more (RightAt (placed t i x s c)) i
            (λ j h. rw (other (3 * j) (λ q. omega arith) (λ q. omega arith) (λ q. omega arith), other (3 * j + 1) (λ q. omega arith) (λ q. omega arith) (λ q. omega arith), other (3 * j + 2) (λ q. omega arith) (λ q. omega arith) (λ q. omega arith)) (f.right j h))
            (rw (first fits, second fits, third fits) e);
      }

-- fewer places are right too
pub filled_fewer : {m n : ℕ} {t : List Float} → Filled m t → n ≤ m → Filled n t
filled_fewer f h = record { long = f.long; right = λ i l. f.right i (omega (arith, l, h)) }

-- a table whose every place was set
pub filled_whole : (t : List Float) → Filled 64 t → Right t
filled_whole t f = λ i h. f.right i (omega (arith, h, f.long))
