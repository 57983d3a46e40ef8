-- A number that fits its limit does so as an exact number, with no slack. Assumes nothing.
use Rattle.std.specs.Prelude.{ℕ, ◌*◌, ◌/◌, ◌^◌, ◌≤◌, ◌<◌, ◌≡◌, refl, Bool, true, false, ◌&&◌, ◌||◌, ◌≤ℤ◌, T, ltb, eqb, Float}
use Rattle.std.proofs.Common.{le_trans, le_of_eq, le_of_lt, mul_right_comm, mul-le-mul_right, le_of_mul-le-mul_right, div-mul-le_self, le-div_iff_mul-le, ltb→lt, eqb→eq, le→leb}
use Rattle.std.specs.Int.Signed.{le_z_yes}
use Rattle.std.specs.Float.{nan, inf, fin, binary64}
use Rattle.std.specs.Float.Ieee.{low, up, down, lt, eq, le}
use Rattle.std.specs.Float.Ieee.Fits.{down_pos}
use Rattle.std.specs.Float.Ieee.Scale.{finite}
use Rattle.common.specs.Floats.{plus_zero}
use Rattle.float.specs.Ops.{abs}
use Rattle.float_laws.specs.Signs.{plus, above_zero_plus}
use Rattle.float_laws.specs.Finite.{le_finite}
use Rattle.float_laws.specs.Place.{mag}
use Rattle.float_laws.specs.Exact.{exact}
use Rattle.geom.specs.Vec.{is_positive_value}
use Rattle.reference_checks.specs.Checks as Checks
use Rattle.reference_checks.specs.Promises.{AtMost}

-- both of two tests that pass
pub and_both : (a b : Bool) → a && b ≡ true → (a ≡ true) × (b ≡ true)
and_both true b e = (refl, e)
and_both false b e = let z : ◌≡◌ {A = Bool} false true = e in (e, cc)

pub holds : (b : Bool) → b ≡ true → T b
holds b e = rw e tt

-- a fraction a / e that is at most c / d, both cut to whole units of 1 / l
units_most : (a e c d l : ℕ) → 0 < e → 0 < d → a * d ≤ c * e → a * l / e ≤ c * l / d
units_most a e c d l E D h =
    let q = a * l / e in
    let x : q * d * e ≤ a * d * l = le_trans (le_of_eq (mul_right_comm q d e)) (le_trans (mul-le-mul_right d (div-mul-le_self (a * l) e)) (le_of_eq (mul_right_comm a l d))) in
    let y : a * d * l ≤ c * l * e = le_trans (mul-le-mul_right l h) (le_of_eq (mul_right_comm c e l)) in
    (le-div_iff_mul-le D).1 (le_of_mul-le-mul_right (le_trans x y) E)

either_most : (a b : ℕ) (c : Bool) → T (ltb a b || (eqb a b && c)) → a ≤ b
either_most a b c t = go (ltb a b) (eqb a b) (ltb→lt a b) (eqb→eq a b) t
  where
    go : (x y : Bool) → (T x → a < b) → (T y → a ≡ b) → T (x || (y && c)) → a ≤ b
    go true y p q t = le_of_lt (p tt)
    go false true p q t = le_of_eq (q tt)
    go false false p q t = absurd t

size_most : (x l : Float) → T (finite l) → T (plus l) → T (le (abs x) l) → exact (abs x) ≤ℤ exact l
unfolding le lt eq abs exact mag
size_most nan l F P t = absurd t
size_most (inf s) nan F P t = absurd F
size_most (inf s) (inf r) F P t = absurd F
size_most (inf s) (fin r n d) F P t = absurd t
size_most (fin s m e) nan F P t = absurd F
size_most (fin s m e) (inf r) F P t = absurd F
size_most (fin s m e) (fin true n d) F P t = absurd P
size_most (fin s m e) (fin false n d) F P t =
    le_z_yes (le→leb _ _ (units_most (m * up e) (down e) (n * up d) (down d) (2 ^ low binary64) (down_pos e) (down_pos d) (either_most (m * up e * down d) (n * up d * down e) _ t)))

pub fits_exact : (x l : Float) → Checks.fits x l ≡ true → AtMost x l
fits_exact x l e =
    let a = and_both (is_positive_value l) (le (abs x) l) e in
    let b = and_both (finite l) (lt plus_zero l) a.0 in
    let F = holds (finite l) b.0 in
    let t = holds (le (abs x) l) a.1 in
    record { fine = le_finite x l F t; most = size_most x l F (above_zero_plus l (holds (lt plus_zero l) b.1)) t }
