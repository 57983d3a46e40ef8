-- The series over sizes lies within 72 / 2 ^ 60 of the exact partial sum. Assumes nothing.
use Rattle.std.specs.Prelude.{◌≡◌, ℕ, zero, suc, ◌+◌, ◌-◌, ◌*◌, ◌/◌, ◌%◌, ◌^◌, ◌<◌, ◌≤◌, refl}
use Rattle.std.proofs.Common.{sym, ap, ◌∙◌, subst, mul_assoc, mul_right_comm, add-mul, le_refl, le_trans, le_of_eq, le_of_lt, mul-le-mul_left, mul-le-mul_right, mul-le-mul, div-mul-le_self, mod-lt, div-add-mod', mul-one, add-le-add, arith, lit<}
use Rattle.angles.specs.Angles.{divisor}
use Rattle.angles.specs.SizesInner.{next_of, term_of, alter, sum_of}
use Rattle.angles.specs.SeriesLaws.{next_le, Held, held}

-- ---- the exact sums over sizes, the terms that are added apart from those that are taken off

-- after j steps: the last term is term / bottom, the terms of its sign sum to like / bottom, and those of the other sign to other / bottom
pub record Parts : Type 0 where
  pub bottom : ℕ
  pub term : ℕ
  pub like : ℕ
  pub other : ℕ

unfoldable pub parts : ℕ → ℕ → ℕ → ℕ → Parts
parts c u t zero = record { bottom = 1; term = t; like = t; other = 0 }
parts c u t (suc j) =
    let f = parts c u t j in
    let k = 2 ^ 60 * 2 ^ 60 * divisor c j in
    let n = f.term * u * u in
    record { bottom = f.bottom * k; term = n; like = f.other * k + n; other = f.like * k }

-- ---- one term

abbrev W : ℕ
W = 2 ^ 60

-- a whole quotient and what it leaves
quot_hi : (a d : ℕ) → 0 < d → a ≤ (a / d + 1) * d
quot_hi a d D = go (a / d * d) (a % d) (div-add-mod' a d) (mod-lt a D) (add-mul (a / d) 1 d)
  where
    go : (q r : ℕ) → q + r ≡ a → r < d → (a / d + 1) * d ≡ q + 1 * d → a ≤ (a / d + 1) * d
    go q r e h f = omega arith

pos_of : (d : ℕ) → 2 ≤ d → 0 < d
pos_of d h = omega arith

-- t' × d × W² ≤ t × u², which is at most (t' + 2) × d × W²
module _ (t u d : ℕ) (h : u < W) (D : 2 ≤ d) where
  abbrev a : ℕ
  a = t * u / W

  abbrev b : ℕ
  b = a * u / W

  abbrev n : ℕ
  n = b / d

  next_lo : n * (W * W * d) ≤ t * u * u
  next_lo =
      let e1 : n * d ≤ b = div-mul-le_self b d in
      let e2 : b * W ≤ a * u = div-mul-le_self (a * u) W in
      let e3 : a * W ≤ t * u = div-mul-le_self (t * u) W in
      le_trans (le_of_eq (sym (mul_assoc n (W * W) d) ∙ mul_right_comm n (W * W) d ∙ sym (mul_assoc (n * d) W W)))
      (le_trans (mul-le-mul_right W (le_trans (mul-le-mul_right W e1) e2)) (le_trans (le_of_eq (mul_right_comm a u W)) (mul-le-mul_right u e3)))

  next_hi : t * u * u ≤ (n + 2) * (W * W * d)
  next_hi =
      let e1 : b ≤ (n + 1) * d = quot_hi b d (pos_of d D) in
      let e2 : a * u ≤ (b + 1) * W = quot_hi (a * u) W (lit< tt) in
      let e3 : t * u ≤ (a + 1) * W = quot_hi (t * u) W (lit< tt) in
      let f1 : t * u * u ≤ (a + 1) * W * u = mul-le-mul_right u e3 in
      let f2 : (a + 1) * W * u ≡ (a * u + u) * W = mul_right_comm (a + 1) W u ∙ ap (λ (z : ℕ). z * W) (add-mul a 1 u ∙ ap (λ (z : ℕ). a * u + z) (one u)) in
      let f3 : a * u + u ≤ (b + 2) * W = two (a * u) b e2 in
      let f4 : b + 2 ≤ (n + 2) * d = more e1 in
      le_trans f1 (le_trans (le_of_eq f2) (le_trans (mul-le-mul_right W (le_trans f3 (mul-le-mul_right W f4))) (le_of_eq (mul_assoc ((n + 2) * d) W W ∙ mul_right_comm (n + 2) d (W * W) ∙ mul_assoc (n + 2) (W * W) d))))
    where
      one : (u : ℕ) → 1 * u ≡ u
      one u = omega arith

      two : (x b : ℕ) → x ≤ (b + 1) * W → x + u ≤ (b + 2) * W
      two x b g = omega arith

      more : b ≤ (n + 1) * d → b + 2 ≤ (n + 2) * d
      more g = go (n * d) (add-mul n 1 d) (add-mul n 2 d)
        where
          go : (x : ℕ) → (n + 1) * d ≡ x + 1 * d → (n + 2) * d ≡ x + 2 * d → b + 2 ≤ (n + 2) * d
          go x e f = omega arith

  -- with an excess x in t, the excess in t' is at most x + 2
  excess : (x : ℕ) → (t + x) * u * u ≤ (n + (x + 2)) * (W * W * d)
  excess x =
      let e1 : (t + x) * u * u ≡ t * u * u + x * u * u = ap (λ (z : ℕ). z * u) (add-mul t x u) ∙ add-mul (t * u) (x * u) u in
      let e2 : x * u * u ≤ x * W * W = mul-le-mul (mul-le-mul_left x (le_of_lt h)) (le_of_lt h) in
      let e3 : x * W * W ≤ x * (W * W * d) = le_trans (le_of_eq (mul_assoc x W W)) (mul-le-mul_left x (le_trans (le_of_eq (sym (mul-one (W * W)))) (mul-le-mul_left (W * W) (one_of d D)))) in
      let e4 : (n + (x + 2)) * (W * W * d) ≡ (n + 2) * (W * W * d) + x * (W * W * d) = ap (λ (z : ℕ). z * (W * W * d)) (regroup n x) ∙ add-mul (n + 2) x (W * W * d) in
      le_trans (le_of_eq e1) (le_trans (add-le-add next_hi (le_trans e2 e3)) (le_of_eq (sym e4)))
    where
      one_of : (d : ℕ) → 2 ≤ d → 1 ≤ d
      one_of d h = omega arith

      regroup : (n x : ℕ) → n + (x + 2) ≡ n + 2 + x
      regroup n x = omega arith

-- ---- the whole numbers' terms, with the sums of those of the last one's sign and of the other

pub record Rough : Type 0 where
  pub term : ℕ
  pub like : ℕ
  pub other : ℕ

unfoldable pub roughly : ℕ → ℕ → ℕ → ℕ → Rough
roughly c u t zero = record { term = t; like = t; other = 0 }
roughly c u t (suc j) =
    let f = roughly c u t j in
    let n = next_of u (divisor c j) f.term in
    record { term = n; like = f.other + n; other = f.like }

-- at most j (j + 1) units: 2 for each term before
unfoldable pub slack : ℕ → ℕ
slack zero = 0
slack (suc j) = slack j + (2 * j + 2)

divisor_two : (c j : ℕ) → 2 ≤ divisor c j
divisor_two c j = mul-le-mul (one j c) (two j c)
  where
    one : (j c : ℕ) → 1 ≤ 2 * j + 1 + c
    one j c = omega arith

    two : (j c : ℕ) → 2 ≤ 2 * j + 2 + c
    two j c = omega arith

pub record Close (c u t j : ℕ) : Type 0 where
  pub term_lo : (roughly c u t j).term * (parts c u t j).bottom ≤ (parts c u t j).term
  pub term_hi : (parts c u t j).term ≤ ((roughly c u t j).term + 2 * j) * (parts c u t j).bottom
  pub like_lo : (roughly c u t j).like * (parts c u t j).bottom ≤ (parts c u t j).like
  pub like_hi : (parts c u t j).like ≤ ((roughly c u t j).like + slack j) * (parts c u t j).bottom
  pub other_lo : (roughly c u t j).other * (parts c u t j).bottom ≤ (parts c u t j).other
  pub other_hi : (parts c u t j).other ≤ ((roughly c u t j).other + slack j) * (parts c u t j).bottom

scale : (x B y K : ℕ) → x * B ≤ y → x * (B * K) ≤ y * K
scale x B y K h = le_trans (le_of_eq (sym (mul_assoc x B K))) (mul-le-mul_right K h)

scale' : (x B y K : ℕ) → y ≤ x * B → y * K ≤ x * (B * K)
scale' x B y K h = le_trans (mul-le-mul_right K h) (le_of_eq (mul_assoc x B K))

turn : (x B K : ℕ) → x * (B * K) ≡ x * K * B
turn x B K = sym (mul_assoc x B K) ∙ mul_right_comm x B K

square : (x B u : ℕ) → x * B * u * u ≡ x * u * u * B
square x B u = ap (λ (z : ℕ). z * u) (mul_right_comm x B u) ∙ mul_right_comm (x * u) B u

-- over one bottom P: two bounds of sums
sum_lo : (x y P X Y : ℕ) → x * P ≤ X → y * P ≤ Y → (x + y) * P ≤ X + Y
sum_lo x y P X Y h k = le_trans (le_of_eq (add-mul x y P)) (add-le-add h k)

sum_hi : (x y e f P X Y : ℕ) → X ≤ (x + e) * P → Y ≤ (y + f) * P → X + Y ≤ (x + y + (e + f)) * P
sum_hi x y e f P X Y h k = le_trans (add-le-add h k) (le_of_eq (sym (add-mul (x + e) (y + f) P) ∙ ap (λ (z : ℕ). z * P) (go x y e f)))
  where
    go : (x y e f : ℕ) → x + e + (y + f) ≡ x + y + (e + f)
    go x y e f = omega arith

wider : (x e f P X : ℕ) → X ≤ (x + e) * P → X ≤ (x + (e + f)) * P
wider x e f P X h = le_trans h (mul-le-mul_right P (go x e f))
  where
    go : (x e f : ℕ) → x + e ≤ x + (e + f)
    go x e f = omega arith

pub close : (c u t : ℕ) → u < W → (j : ℕ) → Close c u t j
unfolding roughly parts slack
close c u t h zero = record { term_lo = one t; term_hi = two t; like_lo = one t; like_hi = two t; other_lo = none; other_hi = none }
  where
    one : (t : ℕ) → t * 1 ≤ t
    one t = omega arith

    two : (t : ℕ) → t ≤ (t + 0) * 1
    two t = omega arith

    none : 0 ≤ 0
    none = le_refl 0
close c u t h (suc j) =
    let q : Close c u t j = close c u t h j in
    let f = parts c u t j in
    let g = roughly c u t j in
    let d = divisor c j in
    let D : 2 ≤ d = divisor_two c j in
    let K = W * W * d in
    let n = next_of u d g.term in
    let lo : n * (f.bottom * K) ≤ f.term * u * u =
    le_trans (le_of_eq (turn n f.bottom K))
    (le_trans (mul-le-mul_right f.bottom (next_lo g.term u d h D))
    (le_trans (le_of_eq (sym (square g.term f.bottom u))) (mul-le-mul_right u (mul-le-mul_right u q.term_lo)))) in
    let hi : f.term * u * u ≤ (n + (2 * j + 2)) * (f.bottom * K) =
    le_trans (mul-le-mul_right u (mul-le-mul_right u q.term_hi))
    (le_trans (le_of_eq (square (g.term + 2 * j) f.bottom u))
    (le_trans (mul-le-mul_right f.bottom (excess g.term u d h D (2 * j))) (le_of_eq (sym (turn (n + (2 * j + 2)) f.bottom K))))) in
    record {
      term_lo = lo;
      term_hi = subst (λ (z : ℕ). f.term * u * u ≤ (n + z) * (f.bottom * K)) (two j) hi;
      like_lo = sum_lo g.other n (f.bottom * K) (f.other * K) (f.term * u * u) (scale g.other f.bottom f.other K q.other_lo) lo;
      like_hi = sum_hi g.other n (slack j) (2 * j + 2) (f.bottom * K) (f.other * K) (f.term * u * u) (scale' (g.other + slack j) f.bottom f.other K q.other_hi) hi;
      other_lo = scale g.like f.bottom f.like K q.like_lo;
      other_hi = wider g.like (slack j) (2 * j + 2) (f.bottom * K) (f.like * K) (scale' (g.like + slack j) f.bottom f.like K q.like_hi);
    }
  where
    two : (j : ℕ) → 2 * j + 2 ≡ 2 * suc j
    two j = omega arith

-- ---- the sum that the code works out is the difference

-- after term n the sum s is `like` less `other`, or the other way round
abbrev Apart : ℕ → ℕ → ℕ → ℕ → Type 0
Apart zero s o k = s + o ≡ k
Apart (suc zero) s o k = s + k ≡ o
Apart (suc (suc n)) s o k = Apart n s o k

further : (a n s p v o k : ℕ) → v ≤ p → Held a n s p → Apart n s o k → Apart (suc n) (alter n s v) k (o + v)
further a zero s p v o k l h e = omega arith
further a (suc zero) s p v o k l h e = omega arith
further a (suc (suc n)) s p v o k l h e = further a n s p v o k l h e

same_term : (c u t n : ℕ) → (roughly c u t n).term ≡ term_of c u t n
unfolding roughly term_of
same_term c u t zero = refl
same_term c u t (suc n) = ap (next_of u (divisor c n)) (same_term c u t n)

differs : (c u t : ℕ) → u < W → (n : ℕ) → Apart n (sum_of c u t n) (roughly c u t n).other (roughly c u t n).like
unfolding sum_of term_of roughly
differs c u t h zero = zero_right t
  where
    zero_right : (t : ℕ) → t + 0 ≡ t
    zero_right t = omega arith
differs c u t h (suc n) =
    subst (λ (v : ℕ). Apart (suc n) (sum_of c u t (suc n)) (roughly c u t n).like ((roughly c u t n).other + v)) (sym (same_term c u t (suc n)))
    (further t n (sum_of c u t n) (term_of c u t n) (term_of c u t (suc n)) (roughly c u t n).other (roughly c u t n).like (next_le (term_of c u t n) u (divisor c n) h) (held c u t h n) (differs c u t h n))

-- V × bottom is within 72 × bottom of like - other: the sum lies within 72 / 2 ^ 60 of the exact partial sum
pub record Within (v : ℕ) (f : Parts) : Type 0 where
  pub over : v * f.bottom + f.other ≤ f.like + 72 * f.bottom
  pub under : f.like ≤ v * f.bottom + f.other + 72 * f.bottom

slack_is : slack 8 ≡ 72
unfolding slack
slack_is = refl

-- x = v × P, y = b × P, w = a × P
bounds : (x y w A B P : ℕ) → x + y ≡ w → w ≤ A → A ≤ w + 72 * P → y ≤ B → B ≤ y + 72 * P → (x + B ≤ A + 72 * P) × (A ≤ x + B + 72 * P)
bounds x y w A B P e l1 h1 l2 h2 = (omega arith, omega arith)

with_slack : (a s P A : ℕ) → s ≡ 72 → A ≤ (a + s) * P → A ≤ a * P + 72 * P
with_slack a s P A z h = le_trans h (le_of_eq (ap (λ (x : ℕ). (a + x) * P) z ∙ add-mul a 72 P))

pub near : (c u t : ℕ) → u < W → Within (sum_of c u t 8) (parts c u t 8)
near c u t h =
    let q : Close c u t 8 = close c u t h 8 in
    let v = sum_of c u t 8 in
    let f = parts c u t 8 in
    let g = roughly c u t 8 in
    let P = f.bottom in
    let e : v * P + g.other * P ≡ g.like * P = sym (add-mul v g.other P) ∙ ap (λ (x : ℕ). x * P) (differs c u t h 8) in
    let b = bounds (v * P) (g.other * P) (g.like * P) f.like f.other P e q.like_lo (with_slack g.like (slack 8) P f.like slack_is q.like_hi) q.other_lo (with_slack g.other (slack 8) P f.other slack_is q.other_hi) in
    record { over = b.0; under = b.1 }
