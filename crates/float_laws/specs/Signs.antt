-- Numbers whose sign is +, an infinity among them: sizes, squares, their sums and their roots. No NaN is one. `search pluses` shows it of an expression. Assumes nothing.
use Rattle.std.specs.Prelude.{◌≡◌, ℕ, zero, suc, ◌+◌, ◌*◌, ◌^◌, Bool, true, false, not, cond, T, ltb, Float}
use Rattle.std.proofs.Math.Path.{refl}
use Rattle.std.specs.Float.{nan, inf, fin, Format, binary64}
use Rattle.std.specs.Float.Ieee.{prec, emax, low, up, down, odd, units, round, sum, add, mul, neg, lt, of_bits}
use Rattle.std.specs.Float.Ieee.Fits.{round-fits}
use Rattle.float.specs.Ops.{number, abs}
use Rattle.float.specs.Sqrt.{sqrt, root_units}
use Rattle.float_laws.specs.Place.{mag, mid, place}
use Rattle.float_laws.specs.Order.{Held, held, neg_number}

-- a number whose sign is +
abbrev pub plus : Float → Bool
plus nan = false
plus (inf s) = not s
plus (fin s m e) = not s

-- it is no NaN
pub plus_number : (x : Float) → T (plus x) → T (number x)
plus_number nan p = p
plus_number (inf s) p = tt
plus_number (fin s m e) p = tt

-- it lies as far above zero as its size
pub place_plus : (f : Format) (x : Float) → T (plus x) → place f x ≡ mid f + mag f x
unfolding place
place_plus f nan p = absurd p
place_plus f (inf true) p = absurd p
place_plus f (inf false) p = refl
place_plus f (fin true m e) p = absurd p
place_plus f (fin false m e) p = refl

-- what is above +0 is one
pub above_zero_plus : (x : Float) → T (lt (of_bits binary64 0) x) → T (plus x)
unfolding lt of_bits
above_zero_plus nan p = p
above_zero_plus (inf s) p = p
above_zero_plus (fin true m e) p = p
above_zero_plus (fin false m e) p = tt

-- ---- what `round` gives
odd_plus : (d q k l : ℕ) → T (plus (odd d false q k l))
unfolding odd
odd_plus d zero k l = tt
odd_plus d (suc q) k l = tt

units_plus : (f : Format) (q k : ℕ) → T (plus (units f false q k))
unfolding units
units_plus f q k = go (ltb (q * 2 ^ k) (2 ^ (low f + suc (emax f))))
  where
    go : (b : Bool) → T (plus (cond b (odd (suc (prec f)) false q k (low f)) (inf false)))
    go true = odd_plus (suc (prec f)) q k (low f)
    go false = tt

pub round_plus : (f : Format) (a c : ℕ) → T (plus (round f false a c))
unfolding round
round_plus f a c = units_plus f _ _

odd_neg : (d q k l : ℕ) → odd d true q k l ≡ neg (odd d false q k l)
unfolding odd neg
odd_neg d zero k l = refl
odd_neg d (suc q) k l = refl

units_neg : (f : Format) (q k : ℕ) → units f true q k ≡ neg (units f false q k)
unfolding units
units_neg f q k = go (ltb (q * 2 ^ k) (2 ^ (low f + suc (emax f))))
  where
    go : (b : Bool) → cond b (odd (suc (prec f)) true q k (low f)) (inf true) ≡ neg (cond b (odd (suc (prec f)) false q k (low f)) (inf false))
    go true = odd_neg (suc (prec f)) q k (low f)
    go false = unfold neg in refl

-- with the other sign it gives the other sign's value
pub round_neg : (f : Format) (a c : ℕ) → round f true a c ≡ neg (round f false a c)
unfolding round
round_neg f a c = units_neg f _ _

-- it gives no NaN
pub round_number : (f : Format) (s : Bool) (a c : ℕ) → T (number (round f s a c))
round_number f false a c = plus_number (round f false a c) (round_plus f a c)
round_number f true a c = rw round_neg (neg_number (round f false a c) (plus_number (round f false a c) (round_plus f a c)))

pub round_held : (f : Format) (s : Bool) (a c : ℕ) → Held f (round f s a c)
round_held f s a c = held (round-fits f s a c) (round_number f s a c)

-- ---- the operations
pub square_plus : (f : Format) (x : Float) → T (number x) → T (plus (mul f x x))
unfolding mul
square_plus f nan p = p
square_plus f (inf true) p = tt
square_plus f (inf false) p = tt
square_plus f (fin true m e) p = round_plus f (m * up e * (m * up e)) (down e * down e)
square_plus f (fin false m e) p = round_plus f (m * up e * (m * up e)) (down e * down e)

pub add_plus : (f : Format) (x y : Float) → T (plus x) → T (plus y) → T (plus (add f x y))
unfolding add sum
add_plus f nan y p q = absurd p
add_plus f (inf true) y p q = absurd p
add_plus f (inf false) nan p q = absurd q
add_plus f (inf false) (inf true) p q = absurd q
add_plus f (inf false) (inf false) p q = tt
add_plus f (inf false) (fin t n d) p q = tt
add_plus f (fin true m e) y p q = absurd p
add_plus f (fin false m e) nan p q = absurd q
add_plus f (fin false m e) (inf t) p q = q
add_plus f (fin false m e) (fin true n d) p q = absurd q
add_plus f (fin false m e) (fin false n d) p q = round_plus f (m * up e * down d + n * up d * down e) (down e * down d)

pub abs_plus : (x : Float) → T (number x) → T (plus (abs x))
unfolding abs
abs_plus nan p = p
abs_plus (inf s) p = tt
abs_plus (fin s m e) p = tt

pub sqrt_plus : (f : Format) (x : Float) → T (plus x) → T (plus (sqrt f x))
unfolding sqrt root_units
sqrt_plus f nan p = p
sqrt_plus f (inf true) p = absurd p
sqrt_plus f (inf false) p = tt
sqrt_plus f (fin true m e) p = absurd p
sqrt_plus f (fin false zero e) p = tt
sqrt_plus f (fin false (suc m) e) p = units_plus f _ _

-- one list for `search`
pub ruleset pluses = (add_plus, square_plus, abs_plus, sqrt_plus)
