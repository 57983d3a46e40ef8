-- sin's and cos's answer lies within 2 ^ -50 of the exact partial sum at r, for every argument that is in range and not tiny. Assumes nothing.
use Rattle.std.specs.Prelude.{◌≡◌, ℕ, zero, suc, ◌+◌, ◌-◌, ◌*◌, ◌^◌, ◌<◌, ◌≤◌, Bool, true, false, cond, not, T, ℤ, pos, negsuc, ◌+ℤ◌, ◌-ℤ◌, ◌*ℤ◌, neg_ℤ, unsigned_abs, refl, Float, Some}
use Rattle.std.proofs.Common.{sym, ap₂, ◌∙◌, subst, zero-mul, mul_assoc, mul_comm, mul_right_comm, add-mul, le_of_eq, le_of_lt, mul-le-mul_right, le_of_mul-le-mul_right, pow_pos}
use Rattle.std.proofs.Math.Path.{ap}
use Rattle.std.proofs.Math.Nat.{le_trans}
use Rattle.std.proofs.Math.Decide.{dec_le}
use native.Mathlib.Omega.{arith}
use Rattle.std.proofs.Math.IntN.{neg_ℤ-neg_ℤ, neg_ℤ-+ℤ, +ℤ_comm, +ℤ_assoc, +ℤ_idr, *ℤ_comm, *ℤ-zero, suc_ℤ-*ℤ}
use Rattle.std.specs.Float.{nan, inf, fin, binary64}
use Rattle.std.specs.Float.Ieee.{up, round, neg, unlike}
use Rattle.std.specs.Float.Ieee.Exact.{HasValue}
use Rattle.std.specs.Float.Ieee.Positive.{num, den}
use Rattle.std.specs.Float.Ieee.Scale.{finite}
use Rattle.angles.specs.declared.Zone.{Zone}
use Rattle.angles.specs.declared.Zone.TheVariants as Zone
use Rattle.angles.specs.Angles.{signed, divisor, alternate, ring, to_float, scaled, quarters, rest, mod4, in_range, tiny, region_of, sin_by, cos_by, sin_of, cos_of}
use Rattle.angles.specs.Exact.{exactly, exact_ring, exact_sin, exact_cos, is_minus, value_of, Within50, Near}
use Rattle.angles.specs.NearLaws.{Parts, parts, Within, near}
use Rattle.angles.specs.ReductionLaws.{sub_under, unlike_false, mod4_small, Small, rest_small}
use Rattle.angles.specs.RoundedLaws.{Rounds, rounds, neg_round}
use Rattle.angles.specs.SeriesLaws.{mul_signed, add_signed, sub_signed, twice_unlike, eight, negated, held, ring_is}
use Rattle.angles.specs.SizesInner.{negative_at, size_at}

-- ---- whole numbers: a product with a natural number goes over a sum

times_next : (x : ℤ) (k : ℕ) → x *ℤ pos (suc k) ≡ x *ℤ pos k +ℤ x
times_next x k = *ℤ_comm x (pos (suc k)) ∙ suc_ℤ-*ℤ (pos k) x ∙ ap (λ (z : ℤ). z +ℤ x) (*ℤ_comm (pos k) x)

swapped : (a b c d : ℤ) → a +ℤ b +ℤ (c +ℤ d) ≡ a +ℤ c +ℤ (b +ℤ d)
swapped a b c d =
    +ℤ_assoc a b (c +ℤ d) ∙ ap (λ (z : ℤ). a +ℤ z) (sym (+ℤ_assoc b c d) ∙ ap (λ (z : ℤ). z +ℤ d) (+ℤ_comm b c) ∙ +ℤ_assoc c b d) ∙ sym (+ℤ_assoc a c (b +ℤ d))

times_sum : (x y : ℤ) (k : ℕ) → (x +ℤ y) *ℤ pos k ≡ x *ℤ pos k +ℤ y *ℤ pos k
times_sum x y zero = *ℤ-zero (x +ℤ y) ∙ sym (ap₂ (λ (a b : ℤ). a +ℤ b) (*ℤ-zero x) (*ℤ-zero y))
times_sum x y (suc k) =
    times_next (x +ℤ y) k
    ∙ ap (λ (z : ℤ). z +ℤ (x +ℤ y)) (times_sum x y k)
    ∙ swapped (x *ℤ pos k) (y *ℤ pos k) x y
    ∙ sym (ap₂ (λ (a b : ℤ). a +ℤ b) (times_next x k) (times_next y k))

times_neg : (x : ℤ) (k : ℕ) → neg_ℤ x *ℤ pos k ≡ neg_ℤ (x *ℤ pos k)
times_neg (pos zero) k = ap pos (zero-mul k) ∙ sym (ap (λ (n : ℕ). neg_ℤ (pos n)) (zero-mul k))
times_neg (pos (suc n)) k = refl
times_neg (negsuc n) k = sym (neg_ℤ-neg_ℤ (pos (suc n * k)))

times_signed : (s : Bool) (a k : ℕ) → signed s a *ℤ pos k ≡ signed s (a * k)
times_signed s a k = mul_signed s false a k ∙ ap (λ (b : Bool). signed b (a * k)) (unlike_false s)

-- ---- a difference of two sizes, with a sign

abbrev diff : Bool → ℕ → ℕ → ℤ
diff s a b = signed s a +ℤ neg_ℤ (signed s b)

diff_times : (s : Bool) (a b k : ℕ) → diff s a b *ℤ pos k ≡ diff s (a * k) (b * k)
diff_times s a b k =
    times_sum (signed s a) (neg_ℤ (signed s b)) k ∙ ap₂ (λ (x y : ℤ). x +ℤ y) (times_signed s a k) (times_neg (signed s b) k ∙ ap neg_ℤ (times_signed s b k))

diff_neg : (s : Bool) (a b : ℕ) → neg_ℤ (diff s a b) ≡ diff s b a
diff_neg s a b = neg_ℤ-+ℤ (signed s a) (neg_ℤ (signed s b)) ∙ ap (λ (z : ℤ). neg_ℤ (signed s a) +ℤ z) (neg_ℤ-neg_ℤ (signed s b)) ∙ +ℤ_comm (neg_ℤ (signed s a)) (signed s b)

diff_not : (s : Bool) (a b : ℕ) → neg_ℤ (diff s a b) ≡ diff (not s) a b
diff_not s a b = neg_ℤ-+ℤ (signed s a) (neg_ℤ (signed s b)) ∙ ap₂ (λ (x y : ℤ). x +ℤ neg_ℤ y) (sym (negated s a)) (sym (negated s b))

diff_add : (s : Bool) (a b n : ℕ) → signed s n +ℤ diff s a b ≡ diff s (n + a) b
diff_add s a b n = sym (+ℤ_assoc (signed s n) (signed s a) (neg_ℤ (signed s b))) ∙ ap (λ (z : ℤ). z +ℤ neg_ℤ (signed s b)) (add_signed s n a)

abs_signed : (s : Bool) (n : ℕ) → unsigned_abs (signed s n) ≡ n
abs_signed false n = refl
abs_signed true zero = refl
abs_signed true (suc n) = refl

gap : (s : Bool) (a b d : ℕ) → a ≤ b + d → b ≤ a + d → unsigned_abs (diff s a b) ≤ d
gap s a b d h k = go (dec_le b a)
  where
    go : Dec (b ≤ a) → unsigned_abs (diff s a b) ≤ d
    go (yes l) = subst (λ (z : ℕ). z ≤ d) (sym (ap unsigned_abs (sub_signed s a b l) ∙ abs_signed s (a - b))) (omega arith)
    go (no l) = subst (λ (z : ℕ). z ≤ d) (sym (ap unsigned_abs (sub_under s a b (omega arith)) ∙ abs_signed (not s) (b - a))) (omega arith)

-- ---- signs that alternate

alternate_add : (j : ℕ) (x y : ℤ) → alternate j x +ℤ alternate j y ≡ alternate j (x +ℤ y)
unfolding alternate
alternate_add zero x y = refl
alternate_add (suc j) x y = sym (neg_ℤ-+ℤ (alternate j x) (alternate j y)) ∙ ap neg_ℤ (alternate_add j x y)

alternate_neg : (j : ℕ) (x : ℤ) → alternate j (neg_ℤ x) ≡ neg_ℤ (alternate j x)
unfolding alternate
alternate_neg zero x = refl
alternate_neg (suc j) x = ap neg_ℤ (alternate_neg j x)

alternate_times : (j : ℕ) (x : ℤ) (k : ℕ) → alternate j x *ℤ pos k ≡ alternate j (x *ℤ pos k)
unfolding alternate
alternate_times zero x k = refl
alternate_times (suc j) x k = times_neg (alternate j x) k ∙ ap neg_ℤ (alternate_times j x k)

next_sum : (j : ℕ) (x y : ℤ) → alternate j x +ℤ alternate (suc j) y ≡ alternate (suc j) (y +ℤ neg_ℤ x)
unfolding alternate
next_sum j x y =
    ap (λ (z : ℤ). z +ℤ alternate (suc j) y) (sym (ap neg_ℤ (alternate_neg j x) ∙ neg_ℤ-neg_ℤ (alternate j x)))
    ∙ alternate_add (suc j) (neg_ℤ x) y
    ∙ ap (alternate (suc j)) (+ℤ_comm (neg_ℤ x) y)

-- ---- the exact sums over ℤ are those over sizes

record Same (c : ℕ) (s t : Bool) (u a j : ℕ) : Type 0 where
  terms : (exactly c (signed s u) (signed t a) j).term ≡ signed t (parts c u a j).term
  sums : (exactly c (signed s u) (signed t a) j).sum ≡ alternate j (diff t (parts c u a j).like (parts c u a j).other)
  bottoms : (exactly c (signed s u) (signed t a) j).bottom ≡ 2 ^ 60 * (parts c u a j).bottom

same : (c : ℕ) (s t : Bool) (u a j : ℕ) → Same c s t u a j
unfolding exactly parts alternate
same c s t u a zero = record { terms = refl; sums = first t a; bottoms = refl }
  where
    first : (t : Bool) (a : ℕ) → signed t a ≡ diff t a 0
    first false a = sym (+ℤ_idr (signed false a))
    first true a = sym (+ℤ_idr (signed true a))
same c s t u a (suc j) =
    let q : Same c s t u a j = same c s t u a j in
    let f = parts c u a j in
    let k = 2 ^ 60 * 2 ^ 60 * divisor c j in
    let r = signed s u in
    let n = f.term * u * u in
    let e : (exactly c r (signed t a) j).term *ℤ r *ℤ r ≡ signed t n = ap (λ (z : ℤ). z *ℤ r *ℤ r) q.terms ∙ square t f.term in
    let d = diff t (f.like * k) (f.other * k) in
    record {
      terms = e;
      sums =
          ap₂ (λ (x y : ℤ). x *ℤ pos k +ℤ alternate (suc j) y) q.sums e
          ∙ ap (λ (z : ℤ). z +ℤ alternate (suc j) (signed t n)) (alternate_times j (diff t f.like f.other) k ∙ ap (alternate j) (diff_times t f.like f.other k))
          ∙ next_sum j d (signed t n)
          ∙ ap (alternate (suc j)) (ap (λ (z : ℤ). signed t n +ℤ z) (diff_neg t (f.like * k) (f.other * k)) ∙ diff_add t (f.other * k) (f.like * k) n ∙ ap (λ (z : ℕ). diff t z (f.like * k)) (turn n (f.other * k)));
      bottoms = ap (λ (z : ℕ). z * k) q.bottoms ∙ mul_assoc (2 ^ 60) f.bottom k;
    }
  where
    square : (t : Bool) (x : ℕ) → signed t x *ℤ signed s u *ℤ signed s u ≡ signed t (x * u * u)
    square t x = ap (λ (z : ℤ). z *ℤ signed s u) (mul_signed t s x u) ∙ mul_signed (unlike t s) s (x * u) u ∙ ap (λ (b : Bool). signed b (x * u * u)) (twice_unlike s t)

    turn : (x y : ℕ) → x + y ≡ y + x
    turn x y = omega arith

-- ---- the ring of four

abbrev parts_at : ℕ → ℕ → Parts
parts_at zero u = parts 1 u u 8
parts_at (suc zero) u = parts 0 u (2 ^ 60) 8
parts_at (suc (suc q)) u = parts_at q u

record Ring (q : ℕ) (b : Bool) (u : ℕ) : Type 0 where
  tops : (exact_ring q (signed b u)).top ≡ diff (negative_at q b) (parts_at q u).like (parts_at q u).other
  bottoms : (exact_ring q (signed b u)).bottom ≡ 2 ^ 60 * (parts_at q u).bottom
  close : Within (size_at q u) (parts_at q u)
  small : size_at q u ≤ 2 ^ 60

module _ (b : Bool) (u : ℕ) (h : u < 2 ^ 60) where
  ringed : (q : ℕ) → q < 4 → Ring q b u
  unfolding exact_ring
  ringed zero l = let e = same 1 b b u u 8 in record { tops = e.sums ∙ eight (diff b (parts 1 u u 8).like (parts 1 u u 8).other); bottoms = e.bottoms; close = near 1 u u h; small = le_trans (held 1 u u h 8).1 (le_of_lt h) }
  ringed (suc zero) l = let e = same 0 b false u (2 ^ 60) 8 in record { tops = e.sums ∙ eight (diff false (parts 0 u (2 ^ 60) 8).like (parts 0 u (2 ^ 60) 8).other); bottoms = e.bottoms; close = near 0 u (2 ^ 60) h; small = (held 0 u (2 ^ 60) h 8).1 }
  ringed (suc (suc zero)) l = let e = ringed zero (omega arith) in record { tops = ap neg_ℤ e.tops ∙ diff_not b (parts 1 u u 8).like (parts 1 u u 8).other; bottoms = e.bottoms; close = e.close; small = e.small }
  ringed (suc (suc (suc zero))) l = let e = ringed (suc zero) (omega arith) in record { tops = ap neg_ℤ e.tops ∙ diff_not false (parts 0 u (2 ^ 60) 8).like (parts 0 u (2 ^ 60) 8).other; bottoms = e.bottoms; close = e.close; small = e.small }
  ringed (suc (suc (suc (suc q)))) l = absurd (no_more q l)
    where
      no_more : (q : ℕ) → suc (suc (suc (suc q))) < 4 → ⊥
      no_more q l = omega arith

-- ---- the float's value

record Valued (s : Bool) (g : ℕ) (x : Float) : Type 0 where
  number : T (finite x)
  signs : signed (is_minus x) (num x) ≡ signed s (num x)
  sizes : num x * 2 ^ 1074 ≡ g * den x

as_is : (x : Float) (g : ℕ) → HasValue x false g (2 ^ 1074) → Valued false g x
as_is nan g h = absurd h
as_is (inf s) g h = absurd h
as_is (fin s m e) g h = record { number = tt; signs = ap (λ (b : Bool). signed b (m * up e)) h.0; sizes = h.1 }

turned : (x : Float) (g : ℕ) → HasValue x false g (2 ^ 1074) → Valued true g (neg x)
unfolding neg
turned nan g h = absurd h
turned (inf s) g h = absurd h
turned (fin s m e) g h = record { number = tt; signs = ap (λ (b : Bool). signed (not b) (m * up e)) h.0; sizes = h.1 }

nothing : round binary64 false 0 (2 ^ 60) ≡ fin false 0 (pos 0)
unfolding round
nothing = refl

valued : (s : Bool) (v g : ℕ) → HasValue (round binary64 false v (2 ^ 60)) false g (2 ^ 1074) → Valued s g (to_float (signed s v))
unfolding to_float
valued false v g h = as_is (round binary64 false v (2 ^ 60)) g h
valued true zero g h =
    let z = as_is (fin false 0 (pos 0)) g (subst (λ (x : Float). HasValue x false g (2 ^ 1074)) nothing h) in
    subst (λ (x : Float). Valued true g x) (sym nothing) (record { number = tt; signs = refl; sizes = z.sizes })
valued true (suc v) g h = subst (λ (x : Float). Valued true g x) (neg_round binary64 (suc v) (2 ^ 60)) (turned (round binary64 false (suc v) (2 ^ 60)) g h)

-- ---- the bound: m / e is the float's size, g / C the same, and C is 2 ^ 1074

module _ (s : Bool) (m e g l o p : ℕ) (h : m * 2 ^ 1074 ≡ g * e) where
  abbrev C : ℕ
  C = 2 ^ 1074

  left : (m * (2 ^ 60 * p) + o * e) * C ≡ (g * 2 ^ 60 * p + o * C) * e
  left =
      add-mul (m * (2 ^ 60 * p)) (o * e) C
      ∙ ap₂ (λ (x y : ℕ). x + y) (mul_right_comm m (2 ^ 60 * p) C ∙ ap (λ (z : ℕ). z * (2 ^ 60 * p)) h ∙ mul_right_comm g e (2 ^ 60 * p) ∙ ap (λ (z : ℕ). z * e) (sym (mul_assoc g (2 ^ 60) p))) (mul_right_comm o e C)
      ∙ sym (add-mul (g * 2 ^ 60 * p) (o * C) e)

  right : (l * e) * C ≡ l * C * e
  right = mul_right_comm l e C

  slack : 2 ^ 10 * p * e * C ≡ 2 ^ 1084 * p * e
  slack = mul_right_comm (2 ^ 10 * p) e C ∙ ap (λ (z : ℕ). z * e) (mul_right_comm (2 ^ 10) p C)

  bound : g * 2 ^ 60 * p + o * 2 ^ 1074 ≤ l * 2 ^ 1074 + 2 ^ 1084 * p → l * 2 ^ 1074 ≤ g * 2 ^ 60 * p + o * 2 ^ 1074 + 2 ^ 1084 * p
      → unsigned_abs (signed s m *ℤ pos (2 ^ 60 * p) -ℤ diff s l o *ℤ pos e) * 2 ^ 50 ≤ e * (2 ^ 60 * p)
  bound over under =
      let a = m * (2 ^ 60 * p) + o * e in
      let b = l * e in
      let d = 2 ^ 10 * p * e in
      let high : a ≤ b + d =
      le_of_mul-le-mul_right {k = C}
      (le_trans (le_of_eq left) (le_trans (mul-le-mul_right e over) (le_of_eq (add-mul (l * C) (2 ^ 1084 * p) e ∙ ap₂ (λ (x y : ℕ). x + y) (sym right) (sym slack) ∙ sym (add-mul b d C))))) (pow_pos 1074) in
      let low : b ≤ a + d =
      le_of_mul-le-mul_right {k = C}
      (le_trans (le_of_eq right) (le_trans (mul-le-mul_right e under) (le_of_eq (add-mul (g * 2 ^ 60 * p + o * C) (2 ^ 1084 * p) e ∙ ap₂ (λ (x y : ℕ). x + y) (sym left) (sym slack) ∙ sym (add-mul a d C))))) (pow_pos 1074) in
      let is : signed s m *ℤ pos (2 ^ 60 * p) -ℤ diff s l o *ℤ pos e ≡ diff s a b =
      ap₂ (λ (x y : ℤ). x -ℤ y) (times_signed s m (2 ^ 60 * p)) (diff_times s l o e)
      ∙ ap (λ (z : ℤ). signed s (m * (2 ^ 60 * p)) +ℤ z) (diff_neg s (l * e) (o * e))
      ∙ diff_add s (o * e) (l * e) (m * (2 ^ 60 * p)) in
      le_trans (mul-le-mul_right (2 ^ 50) (subst (λ (z : ℤ). unsigned_abs z ≤ d) (sym is) (gap s a b d high low))) (le_of_eq (mul_right_comm (2 ^ 10 * p) e (2 ^ 50) ∙ ap (λ (z : ℕ). z * e) (mul_right_comm (2 ^ 10) p (2 ^ 50)) ∙ mul_comm (2 ^ 60 * p) e))

-- ---- the theorem

carried : (x : Float) (t f g : ℤ) (p p' : ℕ) → signed (is_minus x) (num x) ≡ t → f ≡ g → p ≡ p' → unsigned_abs (t *ℤ pos p' -ℤ g *ℤ pos (den x)) * 2 ^ 50 ≤ den x * p' → Within50 (value_of x) (record { top = f; bottom = p })
carried x t f g p p' a b c y =
    subst (λ (z : ℤ). unsigned_abs (z *ℤ pos p -ℤ f *ℤ pos (den x)) * 2 ^ 50 ≤ den x * p) (sym a)
    (subst (λ (z : ℤ). unsigned_abs (t *ℤ pos p -ℤ z *ℤ pos (den x)) * 2 ^ 50 ≤ den x * p) (sym b)
    (subst (λ (z : ℕ). unsigned_abs (t *ℤ pos z -ℤ g *ℤ pos (den x)) * 2 ^ 50 ≤ den x * z) (sym c) y))

near_at : (q : ℕ) (b : Bool) (u : ℕ) → q < 4 → u < 2 ^ 60 → Near (Some (to_float (ring q (signed b u)))) (exact_ring q (signed b u))
near_at q b u l h =
    let k : Ring q b u = ringed b u h q l in
    let f = parts_at q u in
    let n = negative_at q b in
    let v = size_at q u in
    let r : Rounds (round binary64 false v (2 ^ 60)) f = rounds v f k.small k.close in
    let x = to_float (signed n v) in
    let w : Valued n r.top x = valued n v r.top r.value in
    record {
      value = x;
      is = ap (λ (z : ℤ). Some (to_float z)) (ring_is q b u l h);
      number = w.number;
      within =
          carried x (signed n (num x)) (exact_ring q (signed b u)).top (diff n f.like f.other) (exact_ring q (signed b u)).bottom (2 ^ 60 * f.bottom) w.signs k.tops k.bottoms
          (bound n (num x) (den x) r.top f.like f.other f.bottom w.sizes r.over r.under);
    }

near_ring : (q : ℕ) (z : ℤ) → q < 4 → Near (Some (to_float (ring q (rest z)))) (exact_ring q (rest z))
near_ring q z l = let r : Small (rest z) = rest_small z in subst (λ (y : ℤ). Near (Some (to_float (ring q y))) (exact_ring q y)) (sym r.is) (near_at q r.negative r.size l r.small)

inside : (x : Float) → T (in_range x) → T (not (tiny x)) → region_of x ≡ Zone.Inside
unfolding region_of
inside x h k = go (in_range x) (tiny x) h k
  where
    go : (a b : Bool) → T a → T (not b) → cond a (cond b Zone.Tiny Zone.Inside) Zone.Outside ≡ Zone.Inside
    go true true h k = absurd k
    go true false h k = refl
    go false b h k = absurd h

pub sin_near : (x : Float) → T (in_range x) → T (not (tiny x)) → Near (sin_of x) (exact_sin (scaled x))
unfolding sin_of
sin_near x h k =
    let z = scaled x in
    subst (λ (r : Zone). Near (sin_by r x) (exact_sin z)) (sym (inside x h k)) (near_ring (mod4 (quarters z)) z (mod4_small (quarters z)))

pub cos_near : (x : Float) → T (in_range x) → T (not (tiny x)) → Near (cos_of x) (exact_cos (scaled x))
unfolding cos_of
cos_near x h k =
    let z = scaled x in
    subst (λ (r : Zone). Near (cos_by r x) (exact_cos z)) (sym (inside x h k)) (near_ring (mod4 (quarters z +ℤ pos 1)) z (mod4_small (quarters z +ℤ pos 1)))
