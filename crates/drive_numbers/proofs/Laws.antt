-- What a part's number says of the float, and the way back. x is exact x times 2 ^ -1074, and a unit 2 ^ weight of these. Assumes nothing.
use Rattle.std.proofs.Math.Path.{◌≡◌, refl, subst}
use Rattle.std.proofs.Common.{sym, ap, ◌∙◌, zero-mul, suc-mul, ltb→lt, nltb→le, pow_pos, Option, Some, None}
use Rattle.std.specs.Prelude.{◌⊎◌, ℕ, zero, suc, ◌+◌, ◌-◌, ◌*◌, ◌%◌, ◌^◌, ◌≤◌, ◌<◌, Bool, not, ℤ, pos, negsuc, neg_ℤ, nat_abs, ◌-ℤ◌, ◌*ℤ◌, ltb, Float}
use Rattle.std.proofs.Math.Logic.{inl, inr}
use native.Mathlib.Omega.{arith}
use Rattle.std.proofs.Math.Bool.{true, false, cond}
use Rattle.std.proofs.Math.IntN.{+ℤ_comm, +ℤ_idr, +ℤ_invr}
use Rattle.std.proofs.Math.Dec.{T}
use Rattle.std.specs.Float.Ieee.Bits.{is_true}
use Rattle.std.specs.Float.Ieee.Nearest.{closest}
use Rattle.std.specs.Float.Ieee.Scale.{finite}
use Rattle.float_laws.specs.Exact.{exact}
use Rattle.drive_numbers.specs.declared.Unit.{Unit}
use Rattle.drive_numbers.specs.Numbers.{weight, rounded, in_range, whole_in_range, part, read_back_value}
use Rattle.drive_numbers.specs.Rounding.{Nearest, Numbered}
use Rattle.drive_numbers.specs.NearestLaws.{Near, closest_near, near_one}
use Rattle.drive_numbers.specs.BackLaws.{read_back}

-- ---- distances
gap : (p q : ℕ) → nat_abs (pos p -ℤ pos q) ≡ (p - q) + (q - p)
gap p zero = omega arith
gap p (suc q) = by (ltb p (suc q)) (ltb→lt p (suc q)) (nltb→le p (suc q))
  where
    by : (b : Bool) → (T b → p < suc q) → (T (not b) → suc q ≤ p) → nat_abs (cond b (negsuc (suc q - suc p)) (pos (p - suc q))) ≡ (p - suc q) + (suc q - p)
    by true h k = omega (arith, h tt)
    by false h k = omega (arith, k tt)

opposite : (n u : ℕ) → neg_ℤ (pos n) *ℤ pos u ≡ neg_ℤ (pos (n * u))
opposite zero u = ap pos (zero-mul u) ∙ ap (λ (z : ℕ). neg_ℤ (pos z)) (sym (zero-mul u))
opposite (suc n) u = refl

abs_minus : (n : ℕ) → nat_abs (neg_ℤ (pos n)) ≡ n
abs_minus zero = refl
abs_minus (suc n) = refl

gap_minus : (n u a : ℕ) → nat_abs (neg_ℤ (pos n) *ℤ pos u -ℤ negsuc a) ≡ (n * u - suc a) + (suc a - n * u)
gap_minus n u a = ap (λ (z : ℤ). nat_abs (z -ℤ negsuc a)) (opposite n u) ∙ ap nat_abs (+ℤ_comm (neg_ℤ (pos (n * u))) (pos (suc a))) ∙ gap (suc a) (n * u) ∙ omega arith

-- ---- near, of sizes and with signs
module _ (n u a d : ℕ) (e : d ≡ (n * u - a) + (a - n * u)) where
  near_apart : Near n u a → (2 * d ≤ u) × (2 * d ≡ u → n % 2 ≡ 0)
  near_apart h = (omega (arith, h.above, h.below), λ k. h.tie (side k))
    where
      side : 2 * d ≡ u → (2 * (n * u) ≡ 2 * a + u) ⊎ (2 * a ≡ 2 * (n * u) + u)
      side k = by (ltb a (n * u)) (ltb→lt a (n * u)) (nltb→le a (n * u))
        where
          by : (b : Bool) → (T b → a < n * u) → (T (not b) → n * u ≤ a) → (2 * (n * u) ≡ 2 * a + u) ⊎ (2 * a ≡ 2 * (n * u) + u)
          by true h k' = inl (omega (arith, h tt))
          by false h k' = inr (omega (arith, k' tt))

  apart_near : 2 * d ≤ u → (2 * d ≡ u → n % 2 ≡ 0) → 0 < u → Near n u a
  apart_near h k p = record { above = omega arith; below = omega arith; tie = λ t. k (elim t [ inl x ↦ omega arith | inr x ↦ omega arith ]) }

-- ---- the rounded number is near, and no other number is
module _ (u : ℕ) (U : 0 < u) where
  pub rounded_nearest : (z : ℤ) → Nearest u (rounded u z) z
  rounded_nearest (pos a) = let r = near_apart (closest a u) u a (nat_abs (pos (closest a u * u) -ℤ pos a)) (gap (closest a u * u) a) (closest_near a u U) in record { within = r.0; tie = r.1 }
  rounded_nearest (negsuc a) =
      let c = closest (suc a) u in
      let r = near_apart c u (suc a) (nat_abs (neg_ℤ (pos c) *ℤ pos u -ℤ negsuc a)) (gap_minus c u a) (closest_near (suc a) u U) in
      record { within = r.0; tie = λ k. ap (λ (z : ℕ). z % 2) (abs_minus c) ∙ r.1 k }

  too_far : (n a : ℕ) → 2 * (suc n * u + a) ≤ u → ⊥
  too_far n a h = omega (arith, suc-mul n u)

  minus_pos : (n a : ℕ) → nat_abs (negsuc n *ℤ pos u -ℤ pos a) ≡ suc n * u + a
  minus_pos n a = by (suc n * u) a
    where
      by : (p a : ℕ) → nat_abs (neg_ℤ (pos p) -ℤ pos a) ≡ p + a
      by zero zero = refl
      by zero (suc a) = gap 0 (suc a) ∙ omega arith
      by (suc p) zero = ap nat_abs (+ℤ_idr (negsuc p)) ∙ omega arith
      by (suc p) (suc a) = omega arith

  pub only_rounded : (n z : ℤ) → Nearest u n z → n ≡ rounded u z
  only_rounded (pos n) (pos a) h =
      ap pos (near_one n (closest a u) u a U (apart_near n u a (nat_abs (pos (n * u) -ℤ pos a)) (gap (n * u) a) h.within h.tie U) (closest_near a u U))
  only_rounded (negsuc n) (pos a) h = absurd (too_far n a (subst (λ (d : ℕ). 2 * d ≤ u) (minus_pos n a) h.within))
  only_rounded (pos zero) (negsuc a) h =
      let w : 2 * suc a ≤ u = omega (arith, h.within, zero-mul u) in
      let q : Near 0 u (suc a) = record { above = omega (arith, zero-mul u); below = omega (arith, zero-mul u); tie = λ t. refl } in
      ap (λ (c : ℕ). neg_ℤ (pos c)) (near_one 0 (closest (suc a) u) u (suc a) U q (closest_near (suc a) u U))
  only_rounded (pos (suc n)) (negsuc a) h = absurd (too_far n (suc a) h.within)
  only_rounded (negsuc n) (negsuc a) h =
      ap (λ (c : ℕ). neg_ℤ (pos c))
      (near_one (suc n) (closest (suc a) u) u (suc a) U (apart_near (suc n) u (suc a) (nat_abs (negsuc n *ℤ pos u -ℤ negsuc a)) (gap_minus (suc n) u a) h.within h.tie U) (closest_near (suc a) u U))

  -- a multiple of the unit
  pub rounded_whole : (n : ℤ) → rounded u (n *ℤ pos u) ≡ n
  rounded_whole n = let e : nat_abs (n *ℤ pos u -ℤ (n *ℤ pos u)) ≡ 0 = ap nat_abs (+ℤ_invr (n *ℤ pos u)) in sym (only_rounded n (n *ℤ pos u) (record { within = omega arith; tie = λ k. absurd (none e k) }))
    where
      none : {d : ℕ} → d ≡ 0 → 2 * d ≡ u → ⊥
      none e k = omega arith

-- ---- parts
whole_in_range_is : (b : Bool) (m n : ℤ) → cond b (Some m) None ≡ Some n → T b × (m ≡ n)
whole_in_range_is true m n h = (tt, cc)
whole_in_range_is false m n h = absurd (none h)
  where
    none : None ≡ Some n → ⊥
    none h = let z : ◌≡◌ {A = ℕ} 0 1 = cc in omega arith

by_parts : (b : Bool) (m n : ℤ) → cond b (whole_in_range m) None ≡ Some n → T b × T (in_range m) × (m ≡ n)
by_parts true m n h = let k = whole_in_range_is (in_range m) m n h in (tt, k.0, k.1)
by_parts false m n h = absurd (whole_in_range_is false m n h).0

module _ (x : Float) (u : Unit) where
  pub number_says : (n : ℤ) → part x u ≡ Some n → Numbered x u n
  unfolding part
  number_says n h =
      let k = by_parts (finite x) (rounded (2 ^ weight u) (exact x)) n h in
      record { fine = k.0; in_range_law = subst (λ (z : ℤ). T (in_range z)) k.2 k.1; nearest = subst (λ (z : ℤ). Nearest (2 ^ weight u) z (exact x)) k.2 (rounded_nearest (2 ^ weight u) (pow_pos (weight u)) (exact x)) }

  pub says_number : (n : ℤ) → Numbered x u n → part x u ≡ Some n
  unfolding part
  says_number n h =
      rw (is_true (finite x) h.fine) (rw (← only_rounded (2 ^ weight u) (pow_pos (weight u)) n (exact x) h.nearest) (rw (is_true (in_range n) h.in_range_law)))

  -- outside: no number is right
  pub outside_says : part x u ≡ None → (n : ℤ) → Numbered x u n → ⊥
  outside_says h n k = none n (sym h ∙ says_number n k)
    where
      none : (n : ℤ) → None ≡ Some n → ⊥
      none n h = let z : ◌≡◌ {A = ℕ} 0 1 = cc in omega arith

  pub says_outside : ((n : ℤ) → Numbered x u n → ⊥) → part x u ≡ None
  says_outside h = by (part x u) (λ n k. h n (number_says n k))
    where
      by : (w : Option ℤ) → ((n : ℤ) → w ≡ Some n → ⊥) → w ≡ None
      by (Some n) k = absurd (k n refl)
      by None k = refl

-- the same by the rule itself: outside exactly where x is not finite or its rounded number is out of range
module _ (x : Float) (u : Unit) where
  abbrev nearest : ℤ
  nearest = rounded (2 ^ weight u) (exact x)

  pub outside_where : part x u ≡ None → (finite x ≡ false) ⊎ (in_range nearest ≡ false)
  unfolding part
  outside_where h = by (finite x) (in_range nearest) h
    where
      by : (b c : Bool) → cond b (cond c (Some nearest) None) None ≡ None → (b ≡ false) ⊎ (c ≡ false)
      by false c k = inl refl
      by true false k = inr refl
      by true true k = absurd (none k)
        where
          none : Some nearest ≡ None → ⊥
          none k = let z : ◌≡◌ {A = ℕ} 0 1 = cc in omega arith

  pub where_outside : (finite x ≡ false) ⊎ (in_range nearest ≡ false) → part x u ≡ None
  unfolding part
  where_outside (inl h) = rw h
  where_outside (inr h) = rw h (by (finite x))
    where
      by : (b : Bool) → cond {A = Option ℤ} b None None ≡ None
      by true = refl
      by false = refl

-- ---- the way back: exact, and it gives the number again
pub back_exact : (n : ℤ) (u : Unit) → T (in_range n) → exact (read_back_value n u) ≡ n *ℤ pos (2 ^ weight u)
back_exact n u h = (read_back n u h).1

pub written_again : (n : ℤ) (u : Unit) → T (in_range n) → part (read_back_value n u) u ≡ Some n
unfolding part
written_again n u h =
    rw (is_true (finite (read_back_value n u)) (read_back n u h).0) (rw (back_exact n u h) (rw (rounded_whole (2 ^ weight u) (pow_pos (weight u)) n) (rw (is_true (in_range n) h))))
