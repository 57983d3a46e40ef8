-- The heights sum to the area, and the gentle ones are the wave that they stand for. Assumes nothing.
use Rattle.std.specs.Prelude.{ℕ, ◌+◌, ◌-◌, ◌*◌, ◌≤◌, ◌≡◌, refl, [], ◌∷◌, ◌++◌}
use Rattle.std.proofs.Common.{mul-le-mul_right, arith}
use Rattle.common.specs.Iter.{iter}
use Rattle.eigenaxis_seed.specs.declared.Shape.{Shape}
use Rattle.eigenaxis_seed.specs.declared.Shape.TheVariants.{Fastest, Gentle}
use Rattle.eigenaxis_seed.specs.Shapes.{wave, height, area}

-- the sum of the heights of the first n nodes
abbrev sum : Shape → ℕ → ℕ → ℕ
sum s k n = iter (λ i e. e + height s k i) 0 n

-- the gentle heights are (i (16 - i))²
pub gentle_wave : wave ≡ iter (λ i l. l ++ (i * (16 - i) * (i * (16 - i)) ∷ [])) [] 17
unfolding iter
gentle_wave = refl

-- the areas: of the gentle shape, and of the fastest for each number of rising steps
pub gentle_area : sum Gentle 0 17 ≡ area Gentle 0
unfolding iter
gentle_area = refl

pub fastest_areas : (sum Fastest 1 17 ≡ area Fastest 1) × (sum Fastest 2 17 ≡ area Fastest 2) × (sum Fastest 3 17 ≡ area Fastest 3) × (sum Fastest 4 17 ≡ area Fastest 4) × (sum Fastest 5 17 ≡ area Fastest 5) × (sum Fastest 6 17 ≡ area Fastest 6) × (sum Fastest 7 17 ≡ area Fastest 7) × (sum Fastest 8 17 ≡ area Fastest 8)
unfolding iter
fastest_areas = (refl, refl, refl, refl, refl, refl, refl, refl)

-- the area of at most 8 rising steps is small
pub area_small : (k : ℕ) → k ≤ 8 → k * (16 - k) ≤ 128
area_small k h = omega (arith, mul-le-mul_right (16 - k) h)
