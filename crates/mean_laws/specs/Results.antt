-- The sizes of rounded results, in units of the format's smallest value: of a product the rounded product of the sizes, of a sum at most the rounded bound of the exact one, as long as
-- that stays below the overflow. And a value of a format is p digits and zeros. Assumes nothing.
use Rattle.std.specs.Prelude.{◌≡◌, refl, Bool, true, false, ℕ, suc, ◌+◌, ◌-◌, ◌*◌, ◌^◌, ◌≤◌, ◌<◌, T, Float}
use Rattle.std.proofs.Common.{sym, ap, ◌∙◌, le_of_eq, lt_of_lt_of_le, mul-pos, arith, pow_pos}
use Rattle.std.proofs.Math.Nat.{mul-mul-mul_comm, eq_of_mul-eq-mul_right}
use Rattle.std.specs.Float.{nan, inf, fin, Format}
use Rattle.std.specs.Float.Ieee.{prec, emax, low, up, down, unlike, round, add, mul, fits}
use Rattle.std.specs.Float.Ieee.Exact.{HasValue}
use Rattle.std.specs.Float.Ieee.Fits.{down_pos, round-fits, add-fits, two, two-le_pos}
use Rattle.std.specs.Float.Ieee.Scale.{grid, finite, round_same, round_val, round_under}
use Rattle.float_laws.specs.Place.{mag, mid, place, mag_exact, mag_lt, place_inf}
use Rattle.float_laws.specs.Order.{Held, held, mag_neg}
use Rattle.float_laws.specs.Signs.{plus, place_plus, round_plus, round_neg}
use Rattle.float_laws.specs.Finite.{finite_number, finite_neg, add_number}
use Rattle.float_laws.specs.Sizes.{between}
use Rattle.float_laws.specs.Rounding.{rnd, rnd_fix, rnd_mono, rnd_ge_mid, Signed, over, less, add_signed}
use Rattle.mean_laws.specs.Grids.{Digits, gr_digits}

pub mid_is : (f : Format) → mid f ≡ 2 ^ (low f + suc (emax f))
unfolding mid
mid_is f = refl

pub prec_pos : (f : Format) → 0 < prec f
prec_pos f = two-le_pos (prec f) (two f)

-- ---- the size of what `round` gives
value_mag : (f : Format) (x : Float) (s : Bool) (v : ℕ) → T (fits f x) → HasValue x s v (2 ^ low f) → T (finite x) × (mag f x ≡ v)
value_mag f nan s v g h = absurd h
value_mag f (inf t) s v g h = absurd h
value_mag f (fin t m e) s v g h = (tt, eq_of_mul-eq-mul_right (down e) (down_pos e) (mag f (fin t m e)) v (sym (mag_exact f t e m g) ∙ h.1))

plus_mag : (f : Format) (a c : ℕ) → grid f a c < mid f → T (finite (round f false a c)) × (mag f (round f false a c) ≡ grid f a c)
plus_mag f a c h = value_mag f (round f false a c) false (grid f a c) (round-fits f false a c) (round_val f a c (lt_of_lt_of_le h (le_of_eq (mid_is f))))

pub round_mag : (f : Format) (s : Bool) (a c : ℕ) → grid f a c < mid f → T (finite (round f s a c)) × (mag f (round f s a c) ≡ grid f a c)
round_mag f false a c h = plus_mag f a c h
round_mag f true a c h = let w = plus_mag f a c h in rw round_neg (finite_neg (round f false a c) w.0, mag_neg f (round f false a c) ∙ w.1)

-- ---- a product
pub mul_mag : (f : Format) (x y : Float) → T (finite x) → T (finite y) → T (fits f x) → T (fits f y) → grid f (mag f x * mag f y) (2 ^ low f * 2 ^ low f) < mid f
    → T (finite (mul f x y)) × (mag f (mul f x y) ≡ grid f (mag f x * mag f y) (2 ^ low f * 2 ^ low f))
unfolding mul
mul_mag f nan y p q g h k = absurd p
mul_mag f (inf s) y p q g h k = absurd p
mul_mag f (fin s m e) nan p q g h k = absurd q
mul_mag f (fin s m e) (inf t) p q g h k = absurd q
mul_mag f (fin s m e) (fin t n d) p q g h k =
    let L = 2 ^ low f in
    let A = mag f (fin s m e) in
    let B = mag f (fin t n d) in
    let a = mag_exact f s e m g in
    let b = mag_exact f t d n h in
    let same : m * up e * (n * up d) * (L * L) ≡ A * B * (down e * down d) = mul-mul-mul_comm (m * up e) (n * up d) L L ∙ (λ i. a i * b i) ∙ mul-mul-mul_comm A (down e) B (down d) in
    rw (round_same f (unlike s t) (m * up e * (n * up d)) (down e * down d) (A * B) (L * L) (mul-pos (down_pos e) (down_pos d)) (mul-pos (pow_pos (low f)) (pow_pos (low f))) same) (round_mag f (unlike s t) (A * B) (L * L) k)

-- ---- a sum

pub add_size : (f : Format) (x y : Float) (M : ℕ) → T (finite x) → T (finite y) → T (fits f x) → T (fits f y) → place f x + place f y ≤ mid f + mid f + M → mid f + mid f ≤ place f x + place f y + M → grid f M (2 ^ low f) < mid f
    → T (finite (add f x y)) × (mag f (add f x y) ≤ grid f M (2 ^ low f))
add_size f x y M p q g h a b k = go (add_signed f x y p q g h)
  where
    top : place f (rnd f M) ≡ mid f + grid f M (2 ^ low f)
    top = place_plus f (rnd f M) (round_plus f M (2 ^ low f)) ∙ ap (λ (z : ℕ). mid f + z) (plus_mag f M (2 ^ low f) k).1

    H : Held f (add f x y)
    H = held (add-fits f x y) (add_number f x y p (finite_number y q))

    go : Signed f (place f (add f x y)) (place f x + place f y) → T (finite (add f x y)) × (mag f (add f x y) ≤ grid f M (2 ^ low f))
    go (over u v e) =
        let l : u ≤ M = omega arith in
        let c = rnd_mono f u M l in
        let d = rnd_ge_mid f u in
        between f (add f x y) (grid f M (2 ^ low f)) H k (omega (arith, top)) (omega (arith, top))
    go (less u v e) =
        let l : u ≤ M = omega arith in
        let c = rnd_mono f u M l in
        let d = rnd_ge_mid f u in
        between f (add f x y) (grid f M (2 ^ low f)) H k (omega (arith, top)) (omega (arith, top))

-- ---- a value of the format is its own rounded size
under_fine : (f : Format) (x : Float) → T (plus x) → place f x < mid f + mid f → T (finite x)
under_fine f nan p h = absurd p
under_fine f (inf true) p h = absurd p
under_fine f (inf false) p h = let z = place_inf f false in absurd (omega arith)
under_fine f (fin s m e) p h = tt

pub own_grid : (f : Format) (x : Float) → T (finite x) → T (fits f x) → grid f (mag f x) (2 ^ low f) ≡ mag f x
own_grid f nan p g = absurd p
own_grid f (inf s) p g = absurd p
own_grid f (fin s m e) p g =
    let A = mag f (fin s m e) in
    let L = 2 ^ low f in
    let pl = rnd_fix f s m e g in
    let lt = mag_lt f s e m g in
    let fine = under_fine f (rnd f A) (round_plus f A L) (omega arith) in
    let w = plus_mag f A L (lt_of_lt_of_le (round_under f A L fine) (le_of_eq (sym (mid_is f)))) in
    let e1 = w.1 in
    let e2 = place_plus f (rnd f A) (round_plus f A L) in
    omega arith

-- so it is p digits and zeros
pub own_digits : (f : Format) (x : Float) → T (finite x) → T (fits f x) → Digits (prec f) (mag f x)
own_digits f x p g = rw (own_grid f x p g) at (gr_digits (prec f) (mag f x * 2 ^ low f) (2 ^ low f) (prec_pos f) (pow_pos (low f)))

-- and below the overflow
pub own_under : (f : Format) (x : Float) → T (finite x) → T (fits f x) → mag f x < mid f
own_under f nan p g = absurd p
own_under f (inf s) p g = absurd p
own_under f (fin s m e) p g = mag_lt f s e m g
