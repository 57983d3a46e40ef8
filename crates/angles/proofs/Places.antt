-- The places of the ring: even ones take the sine's series, odd ones the cosine's. Assumes nothing.
use Rattle.std.proofs.Common.{◌≡◌, ℕ, zero, suc, ◌+◌, ◌%◌, ◌^◌, ◌<◌, Bool, true, false, leb, sym, refl, ap, ◌∙◌, ap₂, arith}
use lib.Ieee.{Float, unlike}
use Rattle.angles.specs.Angles.{signed, ring, to_float}
use Rattle.angles.specs.SizesInner.{negative_at, size_at}
use Rattle.angles.specs.SeriesLaws.{ring_is}

pub even_size : (q u : ℕ) → q < 4 → q % 2 ≡ 0 → size_at 0 u ≡ size_at q u
even_size zero u l e = refl
even_size (suc zero) u l e = absurd (no e)
  where
    no : ◌≡◌ {A = ℕ} 1 0 → ⊥
    no e = omega arith
even_size (suc (suc q)) u l e = even_size q u (omega arith) (omega arith)

pub odd_size : (q u : ℕ) → q < 4 → (q % 2 ≡ 0 → ⊥) → size_at 1 u ≡ size_at q u
odd_size zero u l e = absurd (e refl)
odd_size (suc zero) u l e = refl
odd_size (suc (suc q)) u l e = odd_size q u (omega arith) (λ (z : q % 2 ≡ 0). e (omega arith))

-- the sign: the second half of the ring is turned round

no_more : (q : ℕ) → suc (suc (suc (suc q))) < 4 → ⊥
no_more q l = omega arith

pub even_sign : (q : ℕ) (b : Bool) → q < 4 → q % 2 ≡ 0 → unlike (leb 2 q) b ≡ negative_at q b
even_sign zero false l e = refl
even_sign zero true l e = refl
even_sign (suc zero) b l e = absurd (no e)
  where
    no : ◌≡◌ {A = ℕ} 1 0 → ⊥
    no e = omega arith
even_sign (suc (suc zero)) false l e = refl
even_sign (suc (suc zero)) true l e = refl
even_sign (suc (suc (suc zero))) b l e = absurd (no e)
  where
    no : ◌≡◌ {A = ℕ} 1 0 → ⊥
    no e = omega arith
even_sign (suc (suc (suc (suc q)))) b l e = absurd (no_more q l)

pub odd_sign : (q : ℕ) (b : Bool) → q < 4 → (q % 2 ≡ 0 → ⊥) → leb 2 q ≡ negative_at q b
odd_sign zero b l e = absurd (e refl)
odd_sign (suc zero) b l e = refl
odd_sign (suc (suc zero)) b l e = absurd (e refl)
odd_sign (suc (suc (suc zero))) b l e = refl
odd_sign (suc (suc (suc (suc q)))) b l e = absurd (no_more q l)

-- a place as a float, from its sign and size
pub placed : (q : ℕ) (b : Bool) (u : ℕ) {n : Bool} {m : ℕ} {y : Float} → q < 4 → u < 2 ^ 60 → n ≡ negative_at q b → m ≡ size_at q u → y ≡ to_float (signed n m) → y ≡ to_float (ring q (signed b u))
placed q b u l h N M Y = Y ∙ ap to_float (ap₂ signed N M ∙ sym (ring_is q b u l h))

-- the next place

pub next_four : (q : ℕ) → (q + 1) % 4 < 4
next_four q = omega arith
