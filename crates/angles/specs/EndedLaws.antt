-- Every series that ends is the full one: its sum is that of all its terms, and its count the least k whose term k - 1 is zero, else 9 or 60. Assumes nothing.
use Rattle.std.specs.Prelude.{◌≡◌, ℕ, zero, suc, ◌+◌, ◌-◌, ◌*◌, ◌/◌, ◌^◌, ◌<◌, ◌≤◌, Bool, true, false, cond, ◌⊎◌, ℤ, pos, negsuc, ◌+ℤ◌, neg_ℤ, ◌≢◌, nat_le, unsigned_abs, Float}
use Rattle.std.proofs.Math.Path.{refl, ap, subst}
use Rattle.std.proofs.Common.{sym, ap₂, ◌∙◌, inl, inr, ⊎_elim, zero-mul, le_refl, le_trans, le_of_eq, le_antisymm, eq-or-lt_of_le, le_of_suc-le-suc, mul_comm, mul-le-mul_left, div-mul-le_self, leb-true, leb-false}
use Rattle.std.proofs.lemmas.Bool.{false≢true}
use Rattle.std.proofs.Math.Nat.{zero-div, div-le_of_le-mul, div-eq_of_lt-le, lt-div-mul-add}
use native.Mathlib.Omega.{arith}
use Rattle.std.proofs.Math.IntN.{+ℤ_idl, +ℤ_idr}
use Rattle.angles.specs.declared.series.Ended.{Ended}
use Rattle.angles.specs.Angles.{signed, size_of, divisor, term, alternate, series, sine, cosine}
use Rattle.angles.specs.Arcs.{short_of, root_of, arc_term, arc_sum}
use Rattle.angles.specs.SizesInner.{next_of, term_of, sum_of}
use Rattle.angles.specs.SeriesLaws.{term_is, sine_is, cosine_is}
use Rattle.angles.specs.Ended.{Counted, is_zero, ended, sine_ended, cosine_ended, arc_part, arc_ended, Formed, end_of, arc_at}

-- ---- a whole number and its size

no_size : (z : ℤ) → unsigned_abs z ≡ 0 → z ≡ pos 0
no_size (pos n) e = ap pos e
no_size (negsuc n) e = absurd (never e)
  where
    never : suc n ≡ 0 → ⊥
    never e = omega arith

zero_size : (z : ℤ) → is_zero z ≡ true → unsigned_abs z ≡ 0
zero_size (pos zero) e = refl
zero_size (pos (suc n)) e = absurd (false≢true e)
zero_size (negsuc n) e = absurd (false≢true e)

some_size : (z : ℤ) → is_zero z ≡ false → unsigned_abs z ≢ 0
some_size (pos zero) e k = false≢true (sym e)
some_size (pos (suc n)) e k = omega arith
some_size (negsuc n) e k = omega arith

neg_size : (z : ℤ) → unsigned_abs (neg_ℤ z) ≡ unsigned_abs z
neg_size (pos zero) = refl
neg_size (pos (suc n)) = refl
neg_size (negsuc n) = refl

alternate_size : (n : ℕ) (z : ℤ) → unsigned_abs (alternate n z) ≡ unsigned_abs z
unfolding alternate
alternate_size zero z = refl
alternate_size (suc n) z = neg_size (alternate n z) ∙ alternate_size n z

pub signed_size : (t : Bool) (a : ℕ) → unsigned_abs (signed t a) ≡ a
signed_size false a = refl
signed_size true zero = refl
signed_size true (suc a) = refl

below : ℤ → Bool
below (pos n) = false
below (negsuc n) = true

by_size : (z : ℤ) → signed (below z) (unsigned_abs z) ≡ z
unfolding below
by_size (pos n) = refl
by_size (negsuc n) = refl

-- ---- counts

pub formed_same : (f g : ℕ → ℕ) (m k : ℕ) → ((n : ℕ) → f n ≡ g n) → Formed f m k → Formed g m k
formed_same f g m k e q = record { some = λ j l z. q.some j l (e j ∙ z); last = λ l. sym (e (k - 1)) ∙ q.last l; first = q.first; most = q.most }

-- no term is zero
pub formed_all : (f : ℕ → ℕ) (m : ℕ) → 1 ≤ m → ((j : ℕ) → j < m → f j ≢ 0) → Formed f m m
formed_all f m l g = record { some = λ j k. g j (omega (arith, k)); last = λ k. absurd (no k); first = l; most = le_refl m }
  where
    no : m < m → ⊥
    no k = omega arith

-- term n is the first that is zero
pub formed_at : (f : ℕ → ℕ) (m n : ℕ) → n < m → f n ≡ 0 → ((j : ℕ) → j < n → f j ≢ 0) → Formed f m (suc n)
formed_at f m n l e g = record { some = λ j k. g j (omega (arith, k)); last = λ k. subst (λ (i : ℕ). f i ≡ 0) same e; first = omega arith; most = l }
  where
    same : n ≡ suc n - 1
    same = omega arith

-- there is one count
pub formed_one : (f : ℕ → ℕ) (m j k : ℕ) → Formed f m j → Formed f m k → j ≡ k
formed_one f m j k a b = le_antisymm (no_less k j b a) (no_less j k a b)
  where
    no_less : (x y : ℕ) → Formed f m x → Formed f m y → y ≤ x
    no_less x y p q = ⊎_elim (λ l. l) (λ l. absurd (q.some (x - 1) (near l p.first) (p.last (far l q.most)))) (split y x)
      where
        near : x < y → 1 ≤ x → x - 1 + 1 < y
        near l h = omega arith

        far : x < y → y ≤ m → x < m
        far l h = omega arith

        split : (y x : ℕ) → (y ≤ x) ⊎ (x < y)
        split y x = by (nat_le y x) refl
          where
            by : (b : Bool) → nat_le y x ≡ b → (y ≤ x) ⊎ (x < y)
            by true e = inl (leb-true y x e)
            by false e = inr (leb-false y x e)

-- ---- the loop over any terms of which a zero one is followed by zeros

-- the sum of the terms below n
unfoldable total : (ℕ → ℤ) → ℕ → ℤ
total f zero = pos 0
total f (suc n) = total f n +ℤ f n

total_next : (f : ℕ → ℤ) (n : ℕ) → total f n +ℤ f n ≡ total f (suc n)
unfolding total
total_next f n = refl

-- the sum of all m terms, and the count
record Full (f : ℕ → ℤ) (m : ℕ) (c : Counted) : Type 0 where
  summed : c.sum ≡ total f m
  formed : Formed (λ (n : ℕ). unsigned_abs (f n)) m c.terms

module _ (f : ℕ → ℤ) (on : (n : ℕ) → unsigned_abs (f n) ≡ 0 → unsigned_abs (f (suc n)) ≡ 0) where
  still : (n : ℕ) → unsigned_abs (f n) ≡ 0 → (k : ℕ) → n ≤ k → (unsigned_abs (f k) ≡ 0) × (total f k ≡ total f n)
  still n e zero l = let z : n ≡ 0 = omega arith in (subst (λ (i : ℕ). unsigned_abs (f i) ≡ 0) z e, ap (total f) (sym z))
  still n e (suc k) l = ⊎_elim (λ p. (subst (λ (i : ℕ). unsigned_abs (f i) ≡ 0) p e, ap (total f) (sym p))) (λ p. further (still n e k (le_of_suc-le-suc p))) (eq-or-lt_of_le l)
    where
      further : (unsigned_abs (f k) ≡ 0) × (total f k ≡ total f n) → (unsigned_abs (f (suc k)) ≡ 0) × (total f (suc k) ≡ total f n)
      further q = (on k q.0, sym (total_next f k) ∙ ap (λ (z : ℤ). total f k +ℤ z) (no_size (f k) q.0) ∙ +ℤ_idr (total f k) ∙ q.1)

  loop : (m n k : ℕ) → m + n ≡ k → 1 ≤ k → ((j : ℕ) → j < n → unsigned_abs (f j) ≢ 0) → (s : ℤ) → s ≡ total f n → Full f k (ended f m n s)
  unfolding ended
  loop zero n k e l g s q = record { summed = q ∙ ap (total f) same; formed = subst (λ (i : ℕ). Formed (λ (j : ℕ). unsigned_abs (f j)) i n) same (formed_all (λ (j : ℕ). unsigned_abs (f j)) n (omega (arith, l)) g) }
    where
      same : n ≡ k
      same = omega arith
  loop (suc m) n k e l g s q = by (is_zero (f n)) refl (λ z. loop m (suc n) k (omega arith) l (more z) (s +ℤ f n) next)
    where
      next : s +ℤ f n ≡ total f (suc n)
      next = ap (λ (x : ℤ). x +ℤ f n) q ∙ total_next f n

      more : is_zero (f n) ≡ false → (j : ℕ) → j < suc n → unsigned_abs (f j) ≢ 0
      more z j h = ⊎_elim (λ p. subst (λ (i : ℕ). unsigned_abs (f i) ≢ 0) (same p) (some_size (f n) z)) (λ p. g j (le_of_suc-le-suc p)) (eq-or-lt_of_le h)
        where
          same : suc j ≡ suc n → n ≡ j
          same p = omega arith

      by : (b : Bool) → is_zero (f n) ≡ b → (is_zero (f n) ≡ false → Full f k (ended f m (suc n) (s +ℤ f n))) → Full f k (cond b (record { sum = s +ℤ f n; terms = suc n }) (ended f m (suc n) (s +ℤ f n)))
      by true z r =
          record {
            summed = next ∙ sym (still (suc n) (on n (zero_size (f n) z)) k (omega arith)).1;
            formed = formed_at (λ (j : ℕ). unsigned_abs (f j)) k n (omega arith) (zero_size (f n) z) g;
          }
      by false z r = r z

  whole : (m : ℕ) → 1 ≤ m → Full f m (ended f m 0 (pos 0))
  unfolding total
  whole m l = loop m 0 m (omega arith) l (λ j h. absurd (none j h)) (pos 0) refl
    where
      none : (j : ℕ) → j < 0 → ⊥
      none j h = omega arith

-- ---- the sine's and the cosine's, at every r

pub zero_on : (c u a n : ℕ) → term_of c u a n ≡ 0 → term_of c u a (suc n) ≡ 0
unfolding term_of
zero_on c u a n e = ap (next_of u (divisor c n)) e ∙ none u (divisor c n)
  where
    none : (u d : ℕ) → next_of u d 0 ≡ 0
    none u d = simp (zero-mul, zero-div)

module _ (c : ℕ) (r t : ℤ) where
  part_size : (n : ℕ) → unsigned_abs (alternate n (term c r t n)) ≡ term_of c (unsigned_abs r) (unsigned_abs t) n
  part_size n =
      alternate_size n (term c r t n)
      ∙ ap₂ (λ (x y : ℤ). unsigned_abs (term c x y n)) (sym (by_size r)) (sym (by_size t))
      ∙ ap unsigned_abs (term_is c (below r) (below t) (unsigned_abs r) (unsigned_abs t) n)
      ∙ signed_size (below t) (term_of c (unsigned_abs r) (unsigned_abs t) n)

  total_is : (n : ℕ) → total (λ (j : ℕ). alternate j (term c r t j)) (suc n) ≡ series c r t n
  unfolding total series term alternate
  total_is zero = +ℤ_idl t
  total_is (suc n) = ap (λ (z : ℤ). z +ℤ alternate (suc n) (term c r t (suc n))) (total_is n)

  nine : Full (λ (j : ℕ). alternate j (term c r t j)) 9 (ended (λ (j : ℕ). alternate j (term c r t j)) 9 0 (pos 0))
  nine = whole (λ (j : ℕ). alternate j (term c r t j)) (λ n e. part_size (suc n) ∙ zero_on c (unsigned_abs r) (unsigned_abs t) n (sym (part_size n) ∙ e)) 9 (omega arith)

  nine_sum : (ended (λ (j : ℕ). alternate j (term c r t j)) 9 0 (pos 0)).sum ≡ series c r t 8
  nine_sum = nine.summed ∙ total_is 8

  nine_formed : Formed (λ (n : ℕ). unsigned_abs (term c r t n)) 9 (ended (λ (j : ℕ). alternate j (term c r t j)) 9 0 (pos 0)).terms
  nine_formed = formed_same _ _ 9 _ (λ n. alternate_size n (term c r t n)) nine.formed

pub sine_full : (r : ℤ) → (sine_ended r).sum ≡ sine r
unfolding sine_ended sine
sine_full r = nine_sum 1 r r

pub sine_formed : (r : ℤ) → Formed (λ (n : ℕ). unsigned_abs (term 1 r r n)) 9 (sine_ended r).terms
unfolding sine_ended
sine_formed r = nine_formed 1 r r

pub cosine_full : (r : ℤ) → (cosine_ended r).sum ≡ cosine r
unfolding cosine_ended cosine
cosine_full r = nine_sum 0 r (pos (2 ^ 60))

pub cosine_formed : (r : ℤ) → Formed (λ (n : ℕ). unsigned_abs (term 0 r (pos (2 ^ 60)) n)) 9 (cosine_ended r).terms
unfolding cosine_ended
cosine_formed r = nine_formed 0 r (pos (2 ^ 60))

-- ---- the arc cosine's, at every h up to 2 ^ 59, which is every D / 2

pub half : (p h : ℕ) → h ≤ 2 ^ 59 → p * h / 2 ^ 60 * 2 ≤ p
half p h l = go (p * h / 2 ^ 60) (p * h) (div-mul-le_self (p * h) (2 ^ 60)) (mul-le-mul_left p l)
  where
    go : (q x : ℕ) → q * 2 ^ 60 ≤ x → x ≤ p * 2 ^ 59 → q * 2 ≤ p
    go q x a b = omega arith

pub less : (q k : ℕ) → q * k / (k + 1) ≤ q
less q k = div-le_of_le-mul (k + 1) (le_trans (mul-le-mul_left q (go k)) (le_of_eq (mul_comm q (k + 1))))
  where
    go : (k : ℕ) → k ≤ k + 1
    go k = omega arith

arc_less : (h s n : ℕ) → h ≤ 2 ^ 59 → arc_term h s (suc n) ≤ arc_term h s n
unfolding arc_term
arc_less h s n H = le_trans (subst (λ (c : ℕ). arc_term h s n * h / 2 ^ 60 * (2 * n + 1) / c ≤ arc_term h s n * h / 2 ^ 60) one (less (arc_term h s n * h / 2 ^ 60) (2 * n + 1))) (omega (arith, half (arc_term h s n) h H))
  where
    one : 2 * n + 1 + 1 ≡ 2 * n + 2
    one = omega arith

pub zero_of : (p d : ℕ) → p < d → p / d ≡ 0
zero_of p d l = div-eq_of_lt-le d (omega arith) (omega arith)

pub below_of : (p d : ℕ) → 0 < d → p / d ≡ 0 → p < d
below_of p d D e = go (p / d) e (lt-div-mul-add {a = p} {b = d} D)
  where
    go : (q : ℕ) → q ≡ 0 → p < q * d + d → p < d
    go zero z l = omega arith
    go (suc q) z l = absurd (no z)
      where
        no : suc q ≡ 0 → ⊥
        no z = omega arith

module _ (h s : ℕ) (H : h ≤ 2 ^ 59) where
  pub arc_on : (n : ℕ) → arc_part h s n ≡ 0 → arc_part h s (suc n) ≡ 0
  arc_on n e = zero_of (arc_term h s (suc n)) (2 * suc n + 1) (omega (arith, arc_less h s n H, below_of (arc_term h s n) (2 * n + 1) (omega arith) e))

  arc_total : (n : ℕ) → total (λ (j : ℕ). pos (arc_part h s j)) n ≡ pos (arc_sum h s n)
  unfolding total arc_sum
  arc_total zero = refl
  arc_total (suc n) = ap (λ (z : ℤ). z +ℤ pos (arc_part h s n)) (arc_total n)

  sixty : Full (λ (j : ℕ). pos (arc_part h s j)) 60 (ended (λ (j : ℕ). pos (arc_part h s j)) 60 0 (pos 0))
  sixty = whole (λ (j : ℕ). pos (arc_part h s j)) arc_on 60 (omega arith)

  pub arc_full : (arc_ended h s).sum ≡ pos (arc_sum h s 60)
  unfolding arc_ended
  arc_full = sixty.summed ∙ arc_total 60

  pub arc_formed : Formed (arc_part h s) 60 (arc_ended h s).terms
  unfolding arc_ended
  arc_formed = sixty.formed

-- ---- the sums' sizes

pub sine_size : (u : ℕ) → u < 2 ^ 60 → (end_of (sine_ended (pos u))).sum ≡ sum_of 1 u u 8
sine_size u h = ap unsigned_abs (sine_full (pos u) ∙ sine_is false u h)

pub cosine_size : (u : ℕ) → u < 2 ^ 60 → (end_of (cosine_ended (pos u))).sum ≡ sum_of 0 u (2 ^ 60) 8
cosine_size u h = ap unsigned_abs (cosine_full (pos u) ∙ cosine_is false u h)

pub arc_size : (w : Float) → (end_of (arc_at w)).sum ≡ arc_sum (short_of w / 2) (root_of (short_of w)) 60
arc_size w = ap unsigned_abs (arc_full (short_of w / 2) (root_of (short_of w)) (go (size_of w)))
  where
    go : (x : ℕ) → (2 ^ 60 - x) / 2 ≤ 2 ^ 59
    go x = omega arith

-- ---- from sizes: a full sum and its count are the end of the series

same_end : {s k : ℕ} (c : Counted) → unsigned_abs c.sum ≡ s → c.terms ≡ k → ◌≡◌ {A = Ended} (record { sum = s; terms = k }) (end_of c)
same_end c p q = λ i. record { sum = sym p i; terms = sym q i }

term_size : (c : ℕ) (s t : Bool) (u a n : ℕ) → unsigned_abs (term c (signed s u) (signed t a) n) ≡ term_of c u a n
term_size c s t u a n = ap unsigned_abs (term_is c s t u a n) ∙ signed_size t (term_of c u a n)

pub sine_end : (b : Bool) (u s k : ℕ) → u < 2 ^ 60 → s ≡ sum_of 1 u u 8 → Formed (term_of 1 u u) 9 k → ◌≡◌ {A = Ended} (record { sum = s; terms = k }) (end_of (sine_ended (signed b u)))
sine_end b u s k h e f =
    same_end (sine_ended (signed b u))
    (ap unsigned_abs (sine_full (signed b u) ∙ sine_is b u h ∙ ap (signed b) (sym e)) ∙ signed_size b s)
    (formed_one (term_of 1 u u) 9 _ k (formed_same _ _ 9 _ (term_size 1 b b u u) (sine_formed (signed b u))) f)

pub cosine_end : (b : Bool) (u s k : ℕ) → u < 2 ^ 60 → s ≡ sum_of 0 u (2 ^ 60) 8 → Formed (term_of 0 u (2 ^ 60)) 9 k → ◌≡◌ {A = Ended} (record { sum = s; terms = k }) (end_of (cosine_ended (signed b u)))
cosine_end b u s k h e f =
    same_end (cosine_ended (signed b u))
    (ap unsigned_abs (cosine_full (signed b u) ∙ cosine_is b u h ∙ ap pos (sym e)))
    (formed_one (term_of 0 u (2 ^ 60)) 9 _ k (formed_same _ _ 9 _ (term_size 0 b false u (2 ^ 60)) (cosine_formed (signed b u))) f)

pub arc_end : (h s a k : ℕ) → h ≤ 2 ^ 59 → a ≡ arc_sum h s 60 → Formed (arc_part h s) 60 k → ◌≡◌ {A = Ended} (record { sum = a; terms = k }) (end_of (arc_ended h s))
arc_end h s a k H e f = same_end (arc_ended h s) (ap unsigned_abs (arc_full h s H) ∙ sym e) (formed_one (arc_part h s) 60 _ k (arc_formed h s H) f)
