-- A fraction of at most 1 over 2 ^ 60, rounded, is off by at most 2 ^ -53; with the 72 / 2 ^ 60 of the series that is within 2 ^ -50 of the exact partial sum. A negated
-- number rounds to the negated float. Assumes nothing.
use Rattle.std.specs.Prelude.{◌≡◌, ℕ, zero, suc, ◌+◌, ◌-◌, ◌*◌, ◌/◌, ◌%◌, ◌^◌, ◌<◌, ◌≤◌, Bool, true, false, cond, not, T, nat_lt, refl, Float}
use Rattle.std.proofs.Common.{sym, ap, ◌∙◌, subst, le_trans, le_of_eq, lt_of_le_of_lt, mul_assoc, mul_comm, mul_right_comm, mul-pos, mul-le-mul_left, mul-le-mul_right, mod-lt, div-add-mod', add-mul, le_refl, add-le-add, suc-mul, arith, lit<, lit≤, leb→le, eqb→eq, pow_pos, pow_mono}
use Prim.Native.Nat.{compare, Ordering}
use Rattle.std.proofs.Math.Nat.{div-le_of_le-mul}
use Rattle.std.proofs.Math.Dec.{is_le, compare_is_eq, nleb→lt}
use Rattle.std.specs.Float.{inf, Format, binary64}
use Rattle.std.specs.Float.Ieee.{prec, emax, low, size, nearest, round, odd, units, neg}
use Rattle.std.specs.Float.Ieee.Fits.{round_is}
use Rattle.std.specs.Float.Ieee.Digits.{size-le}
use Rattle.std.specs.Float.Ieee.Exact.{HasValue}
use Rattle.std.specs.Float.Ieee.Nearest.{closest}
use Rattle.std.specs.Float.Ieee.Order.{drop}
use Rattle.std.specs.Float.Ieee.Scale.{grid, overflow, round_val}
use Rattle.angles.specs.NearLaws.{Parts, Within}

-- ---- the nearest whole number is within a half

abbrev Half : ℕ → ℕ → ℕ → Type 0
Half x a b = (x * b * 2 ≤ a * 2 + b) × (a * 2 ≤ x * b * 2 + b)

by_order : (o : Ordering) (q r b : ℕ) → r < b → (T (is_le o) → r * 2 ≤ b) → (T (not (is_le o)) → b < r * 2) → (T (compare_is_eq o) → r * 2 ≡ b) → Half (nearest q o) (q * b + r) b
by_order Ordering.lt q r b R h k e = let z : r * 2 ≤ b = h tt in (go (q * b), go' (q * b))
  where
    go : (x : ℕ) → x * 2 ≤ (x + r) * 2 + b
    go x = omega arith

    go' : (x : ℕ) → (x + r) * 2 ≤ x * 2 + b
    go' x = let z : r * 2 ≤ b = h tt in omega arith
by_order Ordering.eq q r b R h k e = tie (q % 2) (two q) (e tt)
  where
    two : (q : ℕ) → q % 2 ≤ 1
    two q = omega arith

    tie : (p : ℕ) → p ≤ 1 → r * 2 ≡ b → Half (q + p) (q * b + r) b
    tie zero l z = go (q * b) ((q + 0) * b) (add-mul q 0 b)
      where
        go : (x y : ℕ) → y ≡ x + 0 * b → (y * 2 ≤ (x + r) * 2 + b) × ((x + r) * 2 ≤ y * 2 + b)
        go x y e = (omega arith, omega arith)
    tie (suc zero) l z = go (q * b) ((q + 1) * b) (add-mul q 1 b)
      where
        go : (x y : ℕ) → y ≡ x + 1 * b → (y * 2 ≤ (x + r) * 2 + b) × ((x + r) * 2 ≤ y * 2 + b)
        go x y e = (omega arith, omega arith)
    tie (suc (suc p)) l z = absurd (no p l)
      where
        no : (p : ℕ) → suc (suc p) ≤ 1 → ⊥
        no p l = omega arith
by_order Ordering.gt q r b R h k e = go (q * b) (suc q * b) (suc-mul q b) (k tt)
  where
    go : (x y : ℕ) → y ≡ x + b → b < r * 2 → (y * 2 ≤ (x + r) * 2 + b) × ((x + r) * 2 ≤ y * 2 + b)
    go x y e l = (omega arith, omega arith)

closest_half : (a b : ℕ) → 0 < b → Half (closest a b) a b
closest_half a b B =
    subst (λ (x : ℕ). Half (closest a b) x b) (div-add-mod' a b)
    (by_order (compare (a % b * 2) b) (a / b) (a % b) b (mod-lt a B) (leb→le (a % b * 2) b) (nleb→lt (a % b * 2) b) (eqb→eq (a % b * 2) b))

-- ---- V / 2 ^ 60 rounded is g / 2 ^ 1074

abbrev Off : ℕ → ℕ → Type 0
Off v g = (g * 2 ^ 60 ≤ v * 2 ^ 1074 + 2 ^ 1081) × (v * 2 ^ 1074 ≤ g * 2 ^ 60 + 2 ^ 1081)

go : (x y n U H : ℕ) → x ≡ y → U ≤ H * 2 → y * 2 ≤ n * 2 + U → n * 2 ≤ y * 2 + U → (x ≤ n + H) × (n ≤ x + H)
go x y n U H e b h k = (omega arith, omega arith)

off : (v : ℕ) → v ≤ 2 ^ 60 → Off v (grid binary64 v (2 ^ 60))
off v l =
    let n = v * 2 ^ 1074 in
    let k = drop 53 n (2 ^ 60) in
    let U = 2 ^ 60 * 2 ^ k in
    let q = closest n U in
    let K : k ≤ 1022 = few (size (n / 2 ^ 60)) (size-le (n / 2 ^ 60) 1075 (lt_of_le_of_lt (div-le_of_le-mul (2 ^ 60) {m = n} {n = 2 ^ 1074} (mul-le-mul_right (2 ^ 1074) l)) (lit< tt))) in
    let b : U ≤ 2 ^ 1082 = le_trans (mul-le-mul_left (2 ^ 60) (pow_mono K)) (lit≤ tt) in
    let e : q * 2 ^ k * 2 ^ 60 ≡ q * U = mul_assoc q (2 ^ k) (2 ^ 60) ∙ ap (λ (z : ℕ). q * z) (mul_comm (2 ^ k) (2 ^ 60)) in
    let h = closest_half n U (mul-pos (pow_pos 60) (pow_pos k)) in
    go (q * 2 ^ k * 2 ^ 60) (q * U) n U (2 ^ 1081) e b h.0 h.1
  where
    few : (z : ℕ) → z ≤ 1075 → z - 53 ≤ 1022
    few z h = omega arith

rounded : (v : ℕ) → v ≤ 2 ^ 60 → HasValue (round binary64 false v (2 ^ 60)) false (grid binary64 v (2 ^ 60)) (2 ^ 1074) × Off v (grid binary64 v (2 ^ 60))
rounded v l = let o = off v l in (round_val binary64 v (2 ^ 60) (under (grid binary64 v (2 ^ 60)) v l o.0), o)
  where
    under : (g v : ℕ) → v ≤ 2 ^ 60 → g * 2 ^ 60 ≤ v * 2 ^ 1074 + 2 ^ 1081 → g < overflow binary64
    under g v l h = lt_of_le_of_lt (le_trans (more g) h) (lt_of_le_of_lt (add-le-add (mul-le-mul_right (2 ^ 1074) l) (le_refl (2 ^ 1081))) (lit< tt))
      where
        more : (g : ℕ) → g ≤ g * 2 ^ 60
        more g = omega arith

-- ---- both together: g / 2 ^ 1074 is within 2 ^ -50 of (like - other) / bottom / 2 ^ 60. Everything is over 2 ^ 1134 × bottom
pub record Rounds (x : Float) (f : Parts) : Type 0 where
  pub top : ℕ
  pub value : HasValue x false top (2 ^ 1074)
  pub over : top * 2 ^ 60 * f.bottom + f.other * 2 ^ 1074 ≤ f.like * 2 ^ 1074 + 2 ^ 1084 * f.bottom
  pub under : f.like * 2 ^ 1074 ≤ top * 2 ^ 60 * f.bottom + f.other * 2 ^ 1074 + 2 ^ 1084 * f.bottom

-- L = 2 ^ 1074 and H = 2 ^ 1081, whose sizes `omega` would not take; x = v × L × P, y = H × P, z = 72 × P × L, w = 2 ^ 1084 × P
sum_over : (g x y o k z w : ℕ) → g ≤ x + y → x + o ≤ k + z → y + z ≤ w → g + o ≤ k + w
sum_over g x y o k z w a b c = omega arith

sum_under : (g x y o k z w : ℕ) → x ≤ g + y → k ≤ x + o + z → y + z ≤ w → k ≤ g + o + w
sum_under g x y o k z w a b c = omega arith

pub rounds : (v : ℕ) (f : Parts) → v ≤ 2 ^ 60 → Within v f → Rounds (round binary64 false v (2 ^ 60)) f
rounds v f l q =
    let r = rounded v l in
    let g = grid binary64 v (2 ^ 60) in
    let P = f.bottom in
    let L = 2 ^ 1074 in
    let x = v * L * P in
    let y = 2 ^ 1081 * P in
    let z = 72 * P * L in
    let w = 2 ^ 1084 * P in
    let a1 : g * 2 ^ 60 * P ≤ x + y = le_trans (mul-le-mul_right P r.1.0) (le_of_eq (add-mul (v * L) (2 ^ 1081) P)) in
    let a2 : x ≤ g * 2 ^ 60 * P + y = le_trans (mul-le-mul_right P r.1.1) (le_of_eq (add-mul (g * 2 ^ 60) (2 ^ 1081) P)) in
    let e : v * P * L ≡ x = mul_right_comm v P L in
    let b1 : x + f.other * L ≤ f.like * L + z =
    subst (λ (n : ℕ). n + f.other * L ≤ f.like * L + z) e (le_trans (le_of_eq (sym (add-mul (v * P) f.other L))) (le_trans (mul-le-mul_right L q.over) (le_of_eq (add-mul f.like (72 * P) L)))) in
    let b2 : f.like * L ≤ x + f.other * L + z =
    subst (λ (n : ℕ). f.like * L ≤ n + f.other * L + z) e
    (le_trans (mul-le-mul_right L q.under) (le_of_eq (add-mul (v * P + f.other) (72 * P) L ∙ ap (λ (n : ℕ). n + z) (add-mul (v * P) f.other L)))) in
    let c : y + z ≤ w =
    le_trans (le_of_eq (ap (λ (n : ℕ). y + n) (mul_right_comm 72 P L) ∙ sym (add-mul (2 ^ 1081) (72 * L) P))) (mul-le-mul_right P (lit≤ tt)) in
    record {
      top = g;
      value = r.0;
      over = sum_over (g * 2 ^ 60 * P) x y (f.other * L) (f.like * L) z w a1 b1 c;
      under = sum_under (g * 2 ^ 60 * P) x y (f.other * L) (f.like * L) z w a2 b2 c;
    }

-- ---- the sign

neg_odd : (d q k l : ℕ) → neg (odd d false q k l) ≡ odd d true q k l
unfolding neg odd
neg_odd d zero k l = refl
neg_odd d (suc q) k l = refl

neg_units : (f : Format) (q k : ℕ) → neg (units f false q k) ≡ units f true q k
unfolding units neg
neg_units f q k = go (nat_lt (q * 2 ^ k) (2 ^ (low f + suc (emax f))))
  where
    go : (b : Bool) → neg (cond b (odd (suc (prec f)) false q k (low f)) (inf false)) ≡ cond b (odd (suc (prec f)) true q k (low f)) (inf true)
    go true = neg_odd (suc (prec f)) q k (low f)
    go false = refl

pub neg_round : (f : Format) (n d : ℕ) → neg (round f false n d) ≡ round f true n d
neg_round f n d = ap neg (round_is f false n d) ∙ neg_units f _ _ ∙ sym (round_is f true n d)
