-- Finite, backwards: where a result is finite, so are the operands (of a quotient the dividend). `search finites` carries that from a result to any operand of the expression.
-- And forwards: which results of finite operands are at least numbers. Assumes nothing.
use Rattle.std.specs.Prelude.{ℕ, ◌+◌, ◌-◌, ◌*◌, Bool, true, false, not, ◌&&◌, cond, T, ltb, eqb, Float}
use Rattle.std.specs.Bool.{beq}
use Rattle.std.specs.Float.{nan, inf, fin, Format}
use Rattle.std.specs.Float.Ieee.{unlike, up, down, round, sum, add, sub, mul, div, neg, lt, le, eq}
use Rattle.std.specs.Float.Ieee.Scale.{finite}
use Rattle.float.specs.Ops.{number, abs}
use Rattle.float.specs.Sqrt.{sqrt}
use Rattle.float_laws.specs.Signs.{round_number}

-- a finite value is no NaN
pub finite_number : (x : Float) → T (finite x) → T (number x)
finite_number nan t = t
finite_number (inf s) t = tt
finite_number (fin s m e) t = tt

-- a choice between two values that are not finite
neither : (b : Bool) (x y : Float) → (T (finite x) → ⊥) → (T (finite y) → ⊥) → T (finite (cond b x y)) → ⊥
neither true x y p q t = p t
neither false x y p q t = q t

-- ---- backwards
pub add_finite : (f : Format) (x y : Float) → T (finite (add f x y)) → T (finite x) × T (finite y)
unfolding add
add_finite f nan y t = absurd t
add_finite f (inf s) nan t = absurd t
add_finite f (inf s) (inf r) t = absurd (neither (beq s r) (inf s) nan (λ z. z) (λ z. z) t)
add_finite f (inf s) (fin r n d) t = absurd t
add_finite f (fin s m e) nan t = absurd t
add_finite f (fin s m e) (inf r) t = absurd t
add_finite f (fin s m e) (fin r n d) t = (tt, tt)

pub neg_finite : (x : Float) → T (finite (neg x)) → T (finite x)
unfolding neg
neg_finite nan t = t
neg_finite (inf s) t = t
neg_finite (fin s m e) t = t

pub abs_finite : (x : Float) → T (finite (abs x)) → T (finite x)
unfolding abs
abs_finite nan t = t
abs_finite (inf s) t = t
abs_finite (fin s m e) t = t

pub sub_finite : (f : Format) (x y : Float) → T (finite (sub f x y)) → T (finite x) × T (finite y)
unfolding sub
sub_finite f x y t = let p = add_finite f x (neg y) t in (p.0, neg_finite y p.1)

pub mul_finite : (f : Format) (x y : Float) → T (finite (mul f x y)) → T (finite x) × T (finite y)
unfolding mul
mul_finite f nan y t = absurd t
mul_finite f (inf s) nan t = absurd t
mul_finite f (inf s) (inf r) t = absurd t
mul_finite f (inf s) (fin r n d) t = absurd (neither (eqb n 0) nan (inf (unlike s r)) (λ z. z) (λ z. z) t)
mul_finite f (fin s m e) nan t = absurd t
mul_finite f (fin s m e) (inf r) t = absurd (neither (eqb m 0) nan (inf (unlike s r)) (λ z. z) (λ z. z) t)
mul_finite f (fin s m e) (fin r n d) t = (tt, tt)

pub div_finite : (f : Format) (x y : Float) → T (finite (div f x y)) → T (finite x)
unfolding div
div_finite f nan y t = absurd t
div_finite f (inf s) nan t = absurd t
div_finite f (inf s) (inf r) t = absurd t
div_finite f (inf s) (fin r n d) t = absurd t
div_finite f (fin s m e) y t = tt

-- a finite root has a finite argument
pub sqrt_finite : (f : Format) (x : Float) → T (finite (sqrt f x)) → T (finite x)
unfolding sqrt
sqrt_finite f nan t = t
sqrt_finite f (inf true) t = t
sqrt_finite f (inf false) t = t
sqrt_finite f (fin s m e) t = tt

-- so has a root that is below something
pub lt_sqrt : (f : Format) (x y : Float) → T (lt (sqrt f x) y) → T (finite x)
unfolding sqrt lt
lt_sqrt f nan y t = t
lt_sqrt f (inf true) y t = t
lt_sqrt f (inf false) nan t = t
lt_sqrt f (inf false) (inf s) t = t
lt_sqrt f (inf false) (fin s m e) t = t
lt_sqrt f (fin s m e) y t = tt

-- the same with one operand each: l says it of the first, r of the second
module _ (f : Format) (x y : Float) where
  pub add_fl : T (finite (add f x y)) → T (finite x)
  add_fl t = (add_finite f x y t).0

  pub add_fr : T (finite (add f x y)) → T (finite y)
  add_fr t = (add_finite f x y t).1

  pub sub_fl : T (finite (sub f x y)) → T (finite x)
  sub_fl t = (sub_finite f x y t).0

  pub sub_fr : T (finite (sub f x y)) → T (finite y)
  sub_fr t = (sub_finite f x y t).1

  pub mul_fl : T (finite (mul f x y)) → T (finite x)
  mul_fl t = (mul_finite f x y t).0

  pub mul_fr : T (finite (mul f x y)) → T (finite y)
  mul_fr t = (mul_finite f x y t).1

-- one list for `search`
pub ruleset finites = (add_fl, add_fr, sub_fl, sub_fr, mul_fl, mul_fr, div_finite, neg_finite, abs_finite, sqrt_finite)

-- ---- forwards
pub finite_neg : (x : Float) → T (finite x) → T (finite (neg x))
unfolding neg
finite_neg nan t = t
finite_neg (inf s) t = t
finite_neg (fin s m e) t = t

pub finite_abs : (x : Float) → T (finite x) → T (finite (abs x))
unfolding abs
finite_abs nan t = t
finite_abs (inf s) t = t
finite_abs (fin s m e) t = t

cond_number : (b : Bool) (x y : Float) → T (number x) → T (number y) → T (number (cond b x y))
cond_number true x y p q = p
cond_number false x y p q = q

sum_number : (f : Format) (s : Bool) (a : ℕ) (t : Bool) (b c : ℕ) → T (number (sum f s a t b c))
unfolding sum
sum_number f s a t b c = cond_number (beq s t) (round f s (a + b) c) _ (round_number f s (a + b) c) (cond_number (ltb a b) (round f t (b - a) c) _ (round_number f t (b - a) c) (round_number f (s && ltb b a) (a - b) c))

-- a finite value and a number: their sum is a number
pub add_number : (f : Format) (x y : Float) → T (finite x) → T (number y) → T (number (add f x y))
unfolding add
add_number f nan y p q = absurd p
add_number f (inf s) y p q = absurd p
add_number f (fin s m e) nan p q = absurd q
add_number f (fin s m e) (inf r) p q = tt
add_number f (fin s m e) (fin r n d) p q = sum_number f s (m * up e * down d) r (n * up d * down e) (down e * down d)

-- a number less a finite value is a number
pub sub_number : (f : Format) (x y : Float) → T (number x) → T (finite y) → T (number (sub f x y))
unfolding sub neg add
sub_number f nan y p q = absurd p
sub_number f (inf s) nan p q = absurd q
sub_number f (inf s) (inf t) p q = absurd q
sub_number f (inf s) (fin t n d) p q = tt
sub_number f (fin s m e) nan p q = absurd q
sub_number f (fin s m e) (inf t) p q = absurd q
sub_number f (fin s m e) (fin t n d) p q = sum_number f s (m * up e * down d) (not t) (n * up d * down e) (down e * down d)

-- a product of finite values is a number
pub mul_number : (f : Format) (x y : Float) → T (finite x) → T (finite y) → T (number (mul f x y))
unfolding mul
mul_number f nan y p q = absurd p
mul_number f (inf s) y p q = absurd p
mul_number f (fin s m e) nan p q = absurd q
mul_number f (fin s m e) (inf r) p q = absurd q
mul_number f (fin s m e) (fin r n d) p q = round_number f (unlike s r) (m * up e * (n * up d)) (down e * down d)

-- a size of at most something finite is finite
pub le_finite : (x l : Float) → T (finite l) → T (le (abs x) l) → T (finite x)
unfolding le abs
le_finite nan l p t = absurd t
le_finite (inf s) nan p t = absurd p
le_finite (inf s) (inf r) p t = absurd p
le_finite (inf s) (fin r n d) p t = absurd t
le_finite (fin s m e) l p t = tt

-- what lies between two finite values is finite
pub between_finite : (x lo hi : Float) → T (finite lo) → T (finite hi) → T (le lo x) → T (le x hi) → T (finite x)
unfolding le lt eq
between_finite nan lo hi a b p q = q
between_finite (inf true) nan hi a b p q = a
between_finite (inf true) (inf s) hi a b p q = a
between_finite (inf true) (fin s m e) hi a b p q = p
between_finite (inf false) lo nan a b p q = b
between_finite (inf false) lo (inf s) a b p q = b
between_finite (inf false) lo (fin s m e) a b p q = q
between_finite (fin s m e) lo hi a b p q = tt
