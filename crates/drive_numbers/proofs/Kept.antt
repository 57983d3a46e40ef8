-- A part's number goes through 32 bits unchanged, and so do a sample's numbers. Assumes nothing.
use Rattle.std.specs.Prelude.{Option, Some, None, Ok, Err, slice_index_or}
use mathlib.Core.Path.{◌≡◌, refl}
use mathlib.Core.Bool.{Bool, true, false, cond}
use mathlib.Core.List.{List, [], ◌∷◌}
use Prim.Native.Nat.{ℕ, ◌^◌, ◌-◌}
use native.Mathlib.Omega.{arith}
use lib.Dec.{T, leb, leb→le, le→leb}
use lib.IntN.{ℤ, pos, negsuc}
use lib.Ieee.{Float}
use lib.Ieee.Fits.{and_l, and_i}
use mir.Facts.{to_z-of_z}
use mir.Syntax.{w32}
use mir.Val.{SFits, to_z, of_z}
use Rattle.std.specs.Option.{ok_or}
use Rattle.common.specs.Lists.{at}
use Rattle.samples.specs.declared.PathSample.{PathSample}
use Rattle.drive_numbers.specs.declared.Unit.{Unit}
use Rattle.drive_numbers.specs.Numbers.{in_range, part}
use Rattle.drive_numbers.proofs.Laws.{number_says}
use Rattle.drive_numbers.specs.Drive.{number, all, numbers}
use Rattle.drive_numbers.specs.Inner.{attitude, vector, row_of, attitude_row, vector_row, sample_row}
use Rattle.drive_numbers.specs.InnerLaws.{all_rows}

range_fits : (n : ℤ) → T (in_range n) → SFits w32 n
range_fits (pos n) h = let k = leb→le n (2 ^ 31 - 1) h in record { sfits = omega arith }
range_fits (negsuc n) h = let k = leb→le n (2 ^ 31 - 1) (and_l (leb n (2 ^ 31 - 1)) true h) in record { sfits = omega arith }

-- every number of 32 bits is in range
pub fits_range : (n : ℤ) → SFits w32 n → T (in_range n)
fits_range (pos n) h = le→leb n (2 ^ 31 - 1) (omega (arith, h.sfits))
fits_range (negsuc n) h = and_i (leb n (2 ^ 31 - 1)) true (le→leb n (2 ^ 31 - 1) (omega (arith, h.sfits))) tt

number_fits : (x : Float) (u : Unit) → SFits w32 (number (part x u))
number_fits x u = by (part x u) (λ n e. (number_says x u n e).in_range_law)
  where
    by : (w : Option ℤ) → ((n : ℤ) → w ≡ Some n → T (in_range n)) → SFits w32 (number w)
    by (Some n) h = range_fits n (h n refl)
    by None h = record { sfits = omega arith }

abbrev cut : ℤ → ℤ
cut n = to_z w32 (of_z w32 n)

through : (x : Float) (u : Unit) → cut (number (part x u)) ≡ number (part x u)
through x u = to_z-of_z (number_fits x u)

-- ---- a row that is given has its numbers, and all are inside
given_row : (ws : List (Option ℤ)) {ns : List ℤ} → row_of ws ≡ Some ns → (all ws ≡ true) × (ns ≡ numbers ws)
given_row ws {ns} h = by (all ws) h refl
  where
    by : (b : Bool) → cond b (Some (numbers ws)) None ≡ Some ns → all ws ≡ b → (all ws ≡ true) × (ns ≡ numbers ws)
    by true k e = (e, cc)
    by false k e = absurd (let z : ◌≡◌ {A = ℕ} 0 1 = cc in omega arith)

-- the numbers, or a refusal in their place
pub row_or : {E : Type 0} (ws : List (Option ℤ)) (why : E) → ok_or (row_of ws) why ≡ cond (all ws) (Ok (numbers ws)) (Err why)
row_or ws why = by (all ws)
  where
    by : (b : Bool) → ok_or (cond b (Some (numbers ws)) None) why ≡ cond b (Ok (numbers ws)) (Err why)
    by true = refl
    by false = refl

-- ---- a sample's numbers are those of its four rows
abbrev number_at : List ℤ → ℕ → ℤ
number_at ns k = cut (slice_index_or ns k (pos 0))

pub sample_given : (s : PathSample) {a b c d : List ℤ} → attitude_row s.q ≡ Some a → vector_row s.w ≡ Some b → vector_row s.tau ≡ Some c → vector_row s.h ≡ Some d → Some (
    number_at a 0 ∷ number_at a 1 ∷ number_at a 2 ∷ number_at a 3
    ∷ number_at b 0 ∷ number_at b 1 ∷ number_at b 2
    ∷ number_at c 0 ∷ number_at c 1 ∷ number_at c 2
    ∷ number_at d 0 ∷ number_at d 1 ∷ number_at d 2
    ∷ []
    ) ≡ sample_row s
sample_given s p q r t =
    let a = given_row (attitude s.q) p in
    let b = given_row (vector s.w) q in
    let c = given_row (vector s.tau) r in
    let d = given_row (vector s.h) t in
    rw (a.1, b.1, c.1, d.1, all_rows s, a.0, b.0, c.0, d.0) (λ o. Some (
    through s.q.w Unit.Fine o ∷ through s.q.x Unit.Fine o ∷ through s.q.y Unit.Fine o ∷ through s.q.z Unit.Fine o
    ∷ through (at s.w 0) Unit.Coarse o ∷ through (at s.w 1) Unit.Coarse o ∷ through (at s.w 2) Unit.Coarse o
    ∷ through (at s.tau 0) Unit.Coarse o ∷ through (at s.tau 1) Unit.Coarse o ∷ through (at s.tau 2) Unit.Coarse o
    ∷ through (at s.h 0) Unit.Coarse o ∷ through (at s.h 1) Unit.Coarse o ∷ through (at s.h 2) Unit.Coarse o
    ∷ []
    ))
