-- The largest defect of a run by one root: the square root keeps the order, so the largest of the roots is the root of the largest. Assumes nothing.
use Rattle.std.specs.Prelude.{ℕ, zero, suc, ◌+◌, ◌*◌, ◌^◌, ◌≤◌, ◌<◌, ◌≡◌, refl, Bool, true, not, cond, T, ltb, ℤ, Float}
use Rattle.std.proofs.Common.{sym, ◌∙◌, subst, true≢false, le_antisymm, lt_irrefl, zero-lt-suc, arith, lt→ltb}
use Rattle.std.proofs.Math.Path.{ap}
use Rattle.std.proofs.Math.Bool.{false}
use Rattle.std.proofs.lemmas.Bool.{false≢true}
use Rattle.std.specs.Float.{nan, inf, fin}
use Rattle.std.specs.Float.Ieee.{binary64, up, down, lt, le, fits}
use Rattle.std.specs.Float.Ieee.Exact.{HasValue}
use Rattle.float.specs.Ops.{number, max}
use Rattle.float.specs.OpsLaws.{max_number}
use Rattle.float.specs.Sqrt.{sqrt}
use Rattle.float.specs.SqrtLaws.{grid_root, square_units, sqrt_fits, sqrt_value}
use Rattle.float.specs.SqrtFloats.{from_zero_value, same_value, sqrt_order}
use Rattle.float_laws.specs.Place.{place, mid, mag, mag_exact, place_inf, fin_under}
use Rattle.float_laws.specs.Order.{held, nlt_up, up_nlt, le_up, lt_le, not_above}

-- a number whose sign is plus
abbrev pub upright : Float → Bool
upright nan = false
upright (inf s) = not s
upright (fin s m e) = not s

upright_number : (x : Float) → T (upright x) → T (number x)
upright_number nan h = absurd h
upright_number (inf s) h = tt
upright_number (fin s m e) h = tt

upright_from : (x : Float) → T (upright x) → T (from_zero_value x)
upright_from nan h = absurd h
upright_from (inf s) h = h
upright_from (fin s zero e) h = tt
upright_from (fin s (suc m) e) h = h

from_number : (x : Float) → T (from_zero_value x) → T (number x)
from_number nan h = absurd h
from_number (inf s) h = tt
from_number (fin s m e) h = tt

-- ---- what a root is like
value_upright : (y : Float) (a c : ℕ) → HasValue y false a c → T (upright y)
value_upright nan a c v = absurd v
value_upright (inf s) a c v = absurd v
value_upright (fin true m e) a c v = absurd (true≢false v.0)
value_upright (fin false m e) a c v = tt

some_upright : (m : ℕ) (e : ℤ) → T (fits binary64 (fin false (suc m) e)) → T (upright (sqrt binary64 (fin false (suc m) e)))
some_upright m e f = value_upright (sqrt binary64 (fin false (suc m) e)) (grid_root binary64 (square_units (fin false (suc m) e))) (2 ^ 1074) (sqrt_value (fin false (suc m) e) f (lt→ltb 0 (suc m) (zero-lt-suc m)))

root_upright : (x : Float) → T (fits binary64 x) → T (upright x) → T (upright (sqrt binary64 x))
root_upright nan f h = absurd h
root_upright (inf true) f h = absurd h
root_upright (inf false) f h = unfold sqrt in tt
root_upright (fin true m e) f h = absurd h
root_upright (fin false zero e) f h = unfold sqrt in tt
root_upright (fin false (suc m) e) f h = some_upright m e f

root_number : (x : Float) → T (fits binary64 x) → T (from_zero_value x) → T (number (sqrt binary64 x))
root_number nan f h = absurd h
root_number (inf true) f h = absurd h
root_number (inf false) f h = unfold sqrt in tt
root_number (fin s zero e) f h = unfold sqrt in tt
root_number (fin true (suc m) e) f h = absurd h
root_number (fin false (suc m) e) f h = upright_number (sqrt binary64 (fin false (suc m) e)) (some_upright m e f)

no_root : (x : Float) → from_zero_value x ≡ false → sqrt binary64 x ≡ nan
unfolding sqrt
no_root nan h = refl
no_root (inf true) h = refl
no_root (inf false) h = absurd (true≢false h)
no_root (fin s zero e) h = absurd (true≢false h)
no_root (fin true (suc m) e) h = refl
no_root (fin false (suc m) e) h = absurd (true≢false h)

under_nan : (y : Float) → lt y nan ≡ false
unfolding lt
under_nan nan = refl
under_nan (inf s) = refl
under_nan (fin s m e) = refl

-- ---- upright values of one place are the same
same_mag : (c p q : ℕ) → c + p ≡ c + q → p ≡ q
same_mag c p q h = omega arith

same_place : (y z : Float) → T (fits binary64 y) → T (fits binary64 z) → T (upright y) → T (upright z) → place binary64 y ≡ place binary64 z → y ≡ z
same_place nan z f g u v h = absurd u
same_place (inf true) z f g u v h = absurd u
same_place (fin true m e) z f g u v h = absurd u
same_place (inf false) nan f g u v h = absurd v
same_place (inf false) (inf true) f g u v h = absurd v
same_place (inf false) (inf false) f g u v h = refl
same_place (inf false) (fin true n d) f g u v h = absurd v
same_place (inf false) (fin false n d) f g u v h = absurd (lt_irrefl (mid binary64 + mid binary64) (subst (λ (z : ℕ). z < mid binary64 + mid binary64) (sym h ∙ place_inf binary64 false) (fin_under binary64 d false n g)))
same_place (fin false m e) nan f g u v h = absurd v
same_place (fin false m e) (inf true) f g u v h = absurd v
same_place (fin false m e) (inf false) f g u v h = absurd (lt_irrefl (mid binary64 + mid binary64) (subst (λ (z : ℕ). z < mid binary64 + mid binary64) (h ∙ place_inf binary64 false) (fin_under binary64 e false m f)))
same_place (fin false m e) (fin true n d) f g u v h = absurd v
same_place (fin false m e) (fin false n d) f g u v h =
    let p : mag binary64 (fin false m e) ≡ mag binary64 (fin false n d) = unfold place in same_mag _ _ _ h in
    same_value (fin false m e) (fin false n d) false (mag binary64 (fin false n d)) f g (refl, mag_exact binary64 false e m f ∙ ap (λ (z : ℕ). z * down e) p) (refl, mag_exact binary64 false d n g)

-- ---- the larger of two roots
falsely : (b : Bool) → T (not b) → b ≡ false
falsely true h = absurd h
falsely false h = refl

truly : {b : Bool} → b ≡ true → T b
truly h = subst T (sym h) tt

notly : {b : Bool} → b ≡ false → T (not b)
notly h = subst (λ (b : Bool). T (not b)) (sym h) tt

above_upright : (a x : Float) → T (upright a) → lt a x ≡ true → T (upright x)
unfolding lt
above_upright nan x u h = absurd u
above_upright (inf true) x u h = absurd u
above_upright (inf false) nan u h = absurd (false≢true h)
above_upright (inf false) (inf t) u h = absurd (false≢true h)
above_upright (inf false) (fin t n d) u h = absurd (false≢true h)
above_upright (fin true m e) x u h = absurd u
above_upright (fin false m e) nan u h = absurd (false≢true h)
above_upright (fin false m e) (inf true) u h = absurd (false≢true h)
above_upright (fin false m e) (inf false) u h = tt
above_upright (fin false m e) (fin true n d) u h = absurd (false≢true h)
above_upright (fin false m e) (fin false n d) u h = tt

module _ (a x : Float) (f : T (fits binary64 a)) (g : T (fits binary64 x)) (u : T (upright a)) where
  abbrev ra : Float
  ra = sqrt binary64 a

  abbrev rx : Float
  rx = sqrt binary64 x

  larger_is : max ra rx ≡ cond (lt ra rx) rx ra
  larger_is = max_number ra rx (upright_number ra (root_upright a f u))

  pub keeps : lt a x ≡ false → sqrt binary64 a ≡ max (sqrt binary64 a) (sqrt binary64 x)
  keeps h = sym (larger_is ∙ ap (λ (b : Bool). cond b rx ra) (by (from_zero_value x) refl))
    where
      by : (b : Bool) → from_zero_value x ≡ b → lt ra rx ≡ false
      by false e = ap (lt ra) (no_root x e) ∙ under_nan ra
      by true e =
          let z : T (from_zero_value x) = truly e in
          let o : T (le x a) = not_above binary64 x a (held g (from_number x z)) (held f (upright_number a u)) (notly h) in
          let A = held (sqrt_fits binary64 a f) (upright_number ra (root_upright a f u)) in
          let X = held (sqrt_fits binary64 x g) (root_number x g z) in
          falsely _ (up_nlt binary64 ra rx A X (le_up binary64 rx ra X A (sqrt_order x a g f z (upright_from a u) o)))

  module _ (h : lt a x ≡ true) where
    pub takes_upright : T (upright x)
    takes_upright = above_upright a x u h

    pub takes : sqrt binary64 x ≡ max (sqrt binary64 a) (sqrt binary64 x)
    takes = by (lt ra rx) refl ∙ sym larger_is
      where
        A : T (upright ra)
        A = root_upright a f u

        X : T (upright rx)
        X = root_upright x g takes_upright

        l : T (le ra rx)
        l = sqrt_order a x f g (upright_from a u) (upright_from x takes_upright) (lt_le binary64 a x f g (truly h))

        by : (b : Bool) → lt ra rx ≡ b → rx ≡ cond (lt ra rx) rx ra
        by true e = ap (λ (b : Bool). cond b rx ra) (sym e)
        by false e =
            let P = held (sqrt_fits binary64 a f) (upright_number ra A) in
            let Q = held (sqrt_fits binary64 x g) (upright_number rx X) in
            same_place rx ra (sqrt_fits binary64 x g) (sqrt_fits binary64 a f) X A (le_antisymm (nlt_up binary64 ra rx P Q (notly e)) (le_up binary64 ra rx P Q l))
            ∙ ap (λ (b : Bool). cond b rx ra) (sym e)
