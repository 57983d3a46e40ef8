-- A term grows with the size u, so it is zero exactly where u is below the least size at which it is not: two closed numbers for each term. Assumes nothing.
use Rattle.std.proofs.Common.{◌≡◌, ℕ, zero, suc, ◌-◌, ◌/◌, ◌^◌, ◌<◌, ◌≤◌, refl, le_trans, le_refl, mul-le-mul, le-div_iff_mul-le, div-mul-le_self, arith, lit<, lit≤}
use Rattle.angles.specs.Angles.{divisor}
use Rattle.angles.specs.SizesInner.{next_of, term_of}
use Rattle.angles.specs.EndedInner.{first_of, part_of, least_of}

div_more : (a b d : ℕ) → 0 < d → a ≤ b → a / d ≤ b / d
div_more a b d D h = (le-div_iff_mul-le {k = d} {x = a / d} {y = b} D).1 (le_trans (div-mul-le_self a d) h)

some_divisor : (c n : ℕ) → 0 < divisor c n
some_divisor c n = mul-le-mul {n₁ = 1} {m₁ = 1} (omega arith) (omega arith)

next_more : (u v d s t : ℕ) → 0 < d → u ≤ v → s ≤ t → next_of u d s ≤ next_of v d t
next_more u v d s t D h k = div_more _ _ d D (div_more _ _ (2 ^ 60) (lit< tt) (mul-le-mul (div_more _ _ (2 ^ 60) (lit< tt) (mul-le-mul k h)) h))

first_more : (c u v : ℕ) → u ≤ v → first_of c u ≤ first_of c v
first_more zero u v h = le_refl (2 ^ 60)
first_more (suc c) u v h = h

more : (c u v n : ℕ) → u ≤ v → part_of c u n ≤ part_of c v n
unfolding term_of
more c u v zero h = first_more c u v h
more c u v (suc n) h = next_more u v (divisor c n) (part_of c u n) (part_of c v n) (some_divisor c n) h (more c u v n h)

-- term j + 1 at the least u, and at the one below it
record Edge (c j : ℕ) : Type 0 where
  here : 1 ≤ part_of c (least_of c j) (suc j)
  below : part_of c (least_of c j - 1) (suc j) ≡ 0

too_many : (j : ℕ) → suc (suc (suc (suc (suc (suc (suc (suc j))))))) ≤ 7 → ⊥
too_many j J = omega arith

edge : (c j : ℕ) → c ≤ 1 → j ≤ 7 → Edge c j
unfolding term_of
edge zero zero C J = record { here = lit≤ tt; below = refl }
edge zero (suc zero) C J = record { here = lit≤ tt; below = refl }
edge zero (suc (suc zero)) C J = record { here = lit≤ tt; below = refl }
edge zero (suc (suc (suc zero))) C J = record { here = lit≤ tt; below = refl }
edge zero (suc (suc (suc (suc zero)))) C J = record { here = lit≤ tt; below = refl }
edge zero (suc (suc (suc (suc (suc zero))))) C J = record { here = lit≤ tt; below = refl }
edge zero (suc (suc (suc (suc (suc (suc zero)))))) C J = record { here = lit≤ tt; below = refl }
edge zero (suc (suc (suc (suc (suc (suc (suc zero))))))) C J = record { here = lit≤ tt; below = refl }
edge zero (suc (suc (suc (suc (suc (suc (suc (suc j)))))))) C J = absurd (too_many j J)
edge (suc zero) zero C J = record { here = lit≤ tt; below = refl }
edge (suc zero) (suc zero) C J = record { here = lit≤ tt; below = refl }
edge (suc zero) (suc (suc zero)) C J = record { here = lit≤ tt; below = refl }
edge (suc zero) (suc (suc (suc zero))) C J = record { here = lit≤ tt; below = refl }
edge (suc zero) (suc (suc (suc (suc zero)))) C J = record { here = lit≤ tt; below = refl }
edge (suc zero) (suc (suc (suc (suc (suc zero))))) C J = record { here = lit≤ tt; below = refl }
edge (suc zero) (suc (suc (suc (suc (suc (suc zero)))))) C J = record { here = lit≤ tt; below = refl }
edge (suc zero) (suc (suc (suc (suc (suc (suc (suc zero))))))) C J = record { here = lit≤ tt; below = refl }
edge (suc zero) (suc (suc (suc (suc (suc (suc (suc (suc j)))))))) C J = absurd (too_many j J)
edge (suc (suc c)) j C J = absurd (too_large c C)
  where
    too_large : (c : ℕ) → suc (suc c) ≤ 1 → ⊥
    too_large c C = omega arith

pub zero_below : (c u j : ℕ) → c ≤ 1 → j ≤ 7 → u < least_of c j → part_of c u (suc j) ≡ 0
zero_below c u j C J h = go (part_of c u (suc j)) (more c u (least_of c j - 1) (suc j) (before (least_of c j) h)) (edge c j C J).below
  where
    before : (l : ℕ) → u < l → u ≤ l - 1
    before l k = omega arith

    go : (x : ℕ) {y : ℕ} → x ≤ y → y ≡ 0 → x ≡ 0
    go x a b = omega arith

pub some_above : (c u j : ℕ) → c ≤ 1 → j ≤ 7 → least_of c j ≤ u → 1 ≤ part_of c u (suc j)
some_above c u j C J h = le_trans (edge c j C J).here (more c (least_of c j) u (suc j) h)
