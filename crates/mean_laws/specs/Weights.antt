-- A weighted sum whose weights are 1 and a zero, as exact numbers: it is the part of weight 1, signs of zero aside. Assumes nothing.
use Rattle.std.specs.Prelude.{◌≡◌, Bool, ℕ, ◌+◌, ◌-◌, ◌*◌, ◌^◌, ◌<◌, T, ℤ, pos, Float}
use Rattle.std.proofs.Math.Path.{refl}
use Rattle.std.proofs.Common.{sym, ◌∙◌, le_antisymm, mul-one, mul-zero, zero-mul, arith, pow_pos}
use Rattle.std.proofs.Math.Bool.{true, false}
use Rattle.std.specs.Float.{nan, inf, fin}
use Rattle.std.specs.Float.Ieee.{binary64, low, up, down, unlike, size, units, round, sum, add, sub, mul, neg, fits, of_bits}
use Rattle.std.specs.Float.Ieee.Fits.{down_pos, add-fits, mul-fits}
use Rattle.std.specs.Float.Ieee.Scale.{round_same}
use Rattle.common.specs.Floats.{one}
use Rattle.float_laws.specs.Place.{mag, mid, side, place, mag_exact, mag_lt, fin_above, fin_under, place_inf}
use Rattle.float_laws.specs.Order.{Held, held, place_neg}
use Rattle.float_laws.specs.Signs.{round_neg, round_held}
use Rattle.float_laws.specs.Finite.{finite_number}
use Rattle.float_laws.specs.Rounding.{rnd, rnd_fix, add_above, add_below}
use Rattle.float_laws.specs.Commute.{add_swap}
use Rattle.float_laws.specs.Exact.{signed, exact}
use Rattle.mean_laws.specs.Means.{Plain}

-- a zero of either sign
abbrev pub nought : Bool → Float
nought s = fin s 0 (pos 0)

pub plain_held : {x : Float} → Plain x → Held binary64 x
plain_held {x} p = held p.fit (finite_number x p.fine)

-- ---- by their places

-- a finite f64 lies between the infinities
inner : (x : Float) → Plain x → (0 < place binary64 x) × (place binary64 x < mid binary64 + mid binary64)
inner nan p = absurd p.fine
inner (inf s) p = absurd p.fine
inner (fin s m e) p = (fin_above binary64 e s m p.fit, fin_under binary64 e s m p.fit)

-- and what lies at its place is one
plain_by : (z x : Float) → T (fits binary64 z) → Plain x → place binary64 z ≡ place binary64 x → Plain z
plain_by nan x f p e = absurd (unfold place in omega (arith, (inner x p).0))
plain_by (inf true) x f p e = absurd (omega (arith, (inner x p).0, place_inf binary64 true))
plain_by (inf false) x f p e = absurd (omega (arith, (inner x p).1, place_inf binary64 false))
plain_by (fin s m d) x f p e = record { fit = f; fine = tt }

signed_same : (M : ℕ) (s : Bool) (p : ℕ) (t : Bool) (q : ℕ) → p < M → q < M → side M s p ≡ side M t q → signed s p ≡ signed t q
signed_same M false p false q P Q h = let e : p ≡ q = omega arith in rw e
signed_same M false p true q P Q h = let e : p ≡ 0 = omega arith in let d : q ≡ 0 = omega arith in rw (e, d)
signed_same M true p false q P Q h = let e : p ≡ 0 = omega arith in let d : q ≡ 0 = omega arith in rw (e, d)
signed_same M true p true q P Q h = let e : p ≡ q = omega arith in rw e

-- the same exact number
exact_same : (x y : Float) → Plain x → Plain y → place binary64 x ≡ place binary64 y → exact x ≡ exact y
unfolding exact place
exact_same nan y p q h = absurd p.fine
exact_same (inf s) y p q h = absurd p.fine
exact_same (fin s m e) nan p q h = absurd q.fine
exact_same (fin s m e) (inf t) p q h = absurd q.fine
exact_same (fin s m e) (fin t n d) p q h = signed_same (mid binary64) s (mag binary64 (fin s m e)) t (mag binary64 (fin t n d)) (mag_lt binary64 s e m p.fit) (mag_lt binary64 t d n q.fit) h

-- ---- times 1
one_round : (s t : Bool) (m : ℕ) (e : ℤ) → T (fits binary64 (fin s m e)) → round binary64 t (m * up e * 1) (down e * 1) ≡ round binary64 t (mag binary64 (fin s m e)) (2 ^ low binary64)
one_round s t m e f = rw (mul-one (m * up e), mul-one (down e)) (round_same binary64 t (m * up e) (down e) (mag binary64 (fin s m e)) (2 ^ low binary64) (down_pos e) (pow_pos (low binary64)) (mag_exact binary64 s e m f))

once_place : (x : Float) → Plain x → place binary64 (mul binary64 x one) ≡ place binary64 x
unfolding mul of_bits
once_place nan p = absurd p.fine
once_place (inf s) p = absurd p.fine
once_place (fin false m e) p = rw (one_round false false m e p.fit) (rnd_fix binary64 false m e p.fit ∙ unfold place in refl)
once_place (fin true m e) p =
    let u = mag binary64 (fin true m e) in
    rw (one_round true true m e p.fit, round_neg binary64 u (2 ^ low binary64))
    (unfold place in omega (arith, place_neg binary64 (rnd binary64 u) (round_held binary64 false u (2 ^ low binary64)), rnd_fix binary64 true m e p.fit, mag_lt binary64 true e m p.fit))

-- ---- times a zero
zero_round : (s : Bool) (c : ℕ) → 0 < c → round binary64 s 0 c ≡ nought s
zero_round s c p = round_same binary64 s 0 c 0 1 p (omega arith) (sym (zero-mul c)) ∙ unfold round units size in refl

pub none_is : (x : Float) (t : Bool) → Plain x → (s : Bool) × (mul binary64 x (nought t) ≡ nought s)
unfolding mul
none_is nan t p = absurd p.fine
none_is (inf s) t p = absurd p.fine
none_is (fin s m e) t p = (unlike s t, rw (mul-zero (m * up e), mul-one (down e)) (zero_round (unlike s t) (down e) (down_pos e)))

pub nought_place : (s : Bool) → place binary64 (nought s) ≡ mid binary64
unfolding place mag
nought_place true = omega arith
nought_place false = omega arith

nought_plain : (s : Bool) → Plain (nought s)
unfolding fits
nought_plain s = record { fit = tt; fine = tt }

-- ---- plus a zero
add_nought : (x y : Float) (s : Bool) → Plain x → y ≡ nought s → place binary64 (add binary64 x y) ≡ place binary64 x
add_nought x y s p e =
    let z = nought_plain s in
    rw e
    (le_antisymm (add_below binary64 x (nought s) x p.fine z.fine p.fit z.fit (plain_held p) (inner x p).0 (omega (arith, nought_place s)))
    (add_above binary64 x (nought s) x p.fine z.fine p.fit z.fit (plain_held p) (inner x p).1 (omega (arith, nought_place s))))

-- x times 1, plus y times a zero
weighted : (x y : Float) (t : Bool) → Plain x → Plain y → exact (add binary64 (mul binary64 x one) (mul binary64 y (nought t))) ≡ exact x
weighted x y t p q =
    let o = plain_by (mul binary64 x one) x (mul-fits binary64 x one) p (once_place x p) in
    let e = add_nought (mul binary64 x one) (mul binary64 y (nought t)) (none_is y t q).0 o (none_is y t q).1 ∙ once_place x p in
    exact_same _ x (plain_by _ x (add-fits binary64 (mul binary64 x one) (mul binary64 y (nought t))) p e) p e

one_less : (t : Bool) → sub binary64 one (nought t) ≡ one
unfolding sub add neg sum round units size of_bits
one_less true = refl
one_less false = refl

one_one : sub binary64 one one ≡ nought false
unfolding sub add neg sum round units size of_bits
one_one = refl

-- the fraction 0 of the way from x to y
pub mean_first : (x y : Float) (t : Bool) → Plain x → Plain y → exact (add binary64 (mul binary64 x (sub binary64 one (nought t))) (mul binary64 y (nought t))) ≡ exact x
mean_first x y t p q = rw (one_less t) (weighted x y t p q)

-- the whole way
pub mean_last : (x y : Float) → Plain x → Plain y → exact (add binary64 (mul binary64 x (sub binary64 one one)) (mul binary64 y one)) ≡ exact y
mean_last x y p q = rw (one_one, add_swap binary64 (mul binary64 x (nought false)) (mul binary64 y one)) (weighted y x false q p)
