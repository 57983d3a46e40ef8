-- The series that end: each at the first zero term that it forms. A series answers its sum and how many terms it formed, that one counted. Definitions only.
use Rattle.std.specs.Prelude.{◌≡◌, ℕ, zero, suc, ◌+◌, ◌-◌, ◌*◌, ◌/◌, ◌^◌, ◌<◌, ◌≤◌, Bool, true, false, cond, ℤ, pos, negsuc, ◌+ℤ◌, ◌≢◌, unsigned_abs, Float, Option, Some, None}
use Rattle.angles.specs.declared.Zone.{Zone}
use Rattle.angles.specs.declared.Zone.TheVariants as Zone
use Rattle.angles.specs.declared.series.Ended.{Ended}
use Rattle.angles.specs.Angles.{region_of, scaled, rest, term, alternate}
use Rattle.angles.specs.Arcs.{in_unit, short_of, root_of, arc_term}

-- ---- the loop

-- a sum, and how many terms were formed for it
pub record Counted : Type 0 where
  pub sum : ℤ
  pub terms : ℕ

abbrev pub is_zero : ℤ → Bool
is_zero (pos zero) = true
is_zero (pos (suc n)) = false
is_zero (negsuc n) = false

-- the terms f n, f (n + 1), .. added to s one by one, at most m of them, up to the first that is zero
unfoldable pub ended : (ℕ → ℤ) → ℕ → ℕ → ℤ → Counted
ended f zero n s = record { sum = s; terms = n }
ended f (suc m) n s = cond (is_zero (f n)) (record { sum = s +ℤ f n; terms = suc n }) (ended f m (suc n) (s +ℤ f n))

-- ---- the three series

-- the sine's at r: at most nine terms, the first of which is r
unfoldable pub sine_ended : ℤ → Counted
sine_ended r = ended (λ (n : ℕ). alternate n (term 1 r r n)) 9 0 (pos 0)

-- the cosine's: at most nine, the first of which is 1
unfoldable pub cosine_ended : ℤ → Counted
cosine_ended r = ended (λ (n : ℕ). alternate n (term 0 r (pos (2 ^ 60)) n)) 9 0 (pos 0)

-- the arc cosine's term n
abbrev pub arc_part : ℕ → ℕ → ℕ → ℕ
arc_part h s n = arc_term h s n / (2 * n + 1)

-- the arc cosine's, from h = D / 2 and the root s: at most sixty
unfoldable pub arc_ended : ℕ → ℕ → Counted
arc_ended h s = ended (λ (n : ℕ). pos (arc_part h s n)) 60 0 (pos 0)

-- ---- what the theorems say of a count

-- of the terms of f, at most m, k are formed: the least k whose term k - 1 is zero, else m
pub record Formed (f : ℕ → ℕ) (m k : ℕ) : Type 0 where
  pub some : (j : ℕ) → j + 1 < k → f j ≢ 0
  pub last : k < m → f (k - 1) ≡ 0
  pub first : 1 ≤ k
  pub most : k ≤ m

-- ---- the series of an argument

-- the sum's size, and the count
abbrev pub end_of : Counted → Ended
end_of c = record { sum = unsigned_abs c.sum; terms = c.terms }

-- the sine's and the cosine's series at the argument's rest. There is none outside the range, nor below 2 ^ -26, where the sine is the argument and the cosine 1
abbrev pub series_by : Zone → Ended → Option (ℕ × ℕ)
series_by Zone.Outside e = None
series_by Zone.Tiny e = None
series_by Zone.Inside e = Some (e.sum, e.terms)

unfoldable pub sine_series : Float → Option (ℕ × ℕ)
sine_series x = series_by (region_of x) (end_of (sine_ended (rest (scaled x))))

unfoldable pub cosine_series : Float → Option (ℕ × ℕ)
cosine_series x = series_by (region_of x) (end_of (cosine_ended (rest (scaled x))))

-- both, where there are any
abbrev pub pair : Option (ℕ × ℕ) → Option (ℕ × ℕ) → Option (ℕ × ℕ × ℕ × ℕ)
pair (Some (s, j)) (Some (c, k)) = Some (s, j, c, k)
pair (Some (s, j)) None = None
pair None b = None

unfoldable pub both_series : Float → Option (ℕ × ℕ × ℕ × ℕ)
both_series x = pair (sine_series x) (cosine_series x)

-- the arc cosine's series at w, where w is from 0 to 1
abbrev pub arc_at : Float → Counted
arc_at w = let d = short_of w in arc_ended (d / 2) (root_of d)

unfoldable pub arc_series : Float → Option (ℕ × ℕ)
arc_series w = cond (in_unit w) (Some ((end_of (arc_at w)).sum, (end_of (arc_at w)).terms)) None
