-- Laws of the arc's series. Assumes nothing.
use Rattle.std.proofs.Common.{◌≡◌, ℕ, zero, suc, ◌+◌, ◌-◌, ◌*◌, ◌/◌, ◌%◌, ◌^◌, ◌<◌, ◌≤◌, sym, ap, ◌∙◌, subst, le_trans, le_of_eq, lt_of_le_of_lt, mul-le-mul_right, mod-lt, mul_assoc, mul_comm, add-mul, mul-le-mul_left, div-add-mod', zero-mul, mul-one, div-le_self, div-mul-le_self, mul_left_comm, add-one, arith, lit<}
use Rattle.angles.specs.declared.arc.Arc.{Arc}
use Rattle.angles.specs.Arcs.{arc_term, arc_sum}
use Rattle.angles.specs.SizesInner.{ArcAt, ArcFits}
use Rattle.angles.specs.EndedLaws.{half, less}
use Rattle.angles.proofs.Division.{reciprocal}

-- with k = 2n + 1: k times a term stays within s
pub room : (s p q k : ℕ) → q * 2 ≤ p → k * p ≤ s → q * k ≤ s
room s p q k a b = le_trans (le_trans (mul-le-mul_right k (go q p a)) (le_of_eq (mul_comm p k))) b
  where
    go : (q p : ℕ) → q * 2 ≤ p → q ≤ p
    go q p h = omega arith

pub held : (s p q k : ℕ) → q * 2 ≤ p → k * p ≤ s → (k + 2) * (q * k / (k + 1)) ≤ s
held s p q k a b =
    let v = q * k / (k + 1) in
    let e1 : v * (k + 1) ≤ q * k = div-mul-le_self (q * k) (k + 1) in
    let e2 : (k + 2) * v ≤ (k + 1) * 2 * v = mul-le-mul_right v (go k) in
    let e3 : (k + 1) * 2 * v ≡ v * (k + 1) * 2 = mul_comm ((k + 1) * 2) v ∙ sym (mul_assoc v (k + 1) 2) in
    let e4 : q * 2 * k ≤ p * k = mul-le-mul_right k a in
    let e5 : q * 2 * k ≡ q * k * 2 = mul_assoc q 2 k ∙ ap (λ (z : ℕ). q * z) (mul_comm 2 k) ∙ sym (mul_assoc q k 2) in
    let e6 : p * k ≡ k * p = mul_comm p k in
    fin ((k + 2) * v) ((k + 1) * 2 * v) (v * (k + 1)) (q * k) (q * 2 * k) (p * k) (k * p) e1 e2 e3 e4 e5 e6 b
  where
    go : (k : ℕ) → k + 2 ≤ (k + 1) * 2
    go k = omega arith

    fin : (A B C D E F G : ℕ) → C ≤ D → A ≤ B → B ≡ C * 2 → E ≤ F → E ≡ D * 2 → F ≡ G → G ≤ s → A ≤ s
    fin A B C D E F G a b c d e f g = omega arith

-- ---- (2n + 1) / (2n + 2) as one product: the factor is 2 ^ 64 less its share

module _ (n : ℕ) (N : n < 60) where
  abbrev k : ℕ
  k = 2 * n + 1

  abbrev share : ℕ
  share = 2 ^ 63 / (n + 1)

  abbrev factor : ℕ
  factor = 2 ^ 64 - 1 - (share - 1)

  abbrev over : ℕ
  over = 2 ^ 63 % (n + 1)

  shared : share * (n + 1) + over ≡ 2 ^ 63
  shared = div-add-mod' (2 ^ 63) (n + 1)

  left : over < n + 1
  left = mod-lt (2 ^ 63) (omega arith)

  pub some_share : 1 ≤ share
  some_share = go share over shared left
    where
      go : (s r : ℕ) → s * (n + 1) + r ≡ 2 ^ 63 → r < n + 1 → 1 ≤ s
      go zero r e l = absurd (no (zero * (n + 1)) (zero-mul (n + 1)) e)
        where
          no : (z : ℕ) → z ≡ 0 → z + r ≡ 2 ^ 63 → ⊥
          no z f e = omega arith
      go (suc s) r e l = omega arith

  factor_is : factor * (k + 1) ≡ 2 ^ 64 * k + 2 * over
  factor_is =
      go (factor * (k + 1)) (share * (k + 1)) (share * (n + 1)) over
      (sym (add-mul factor share (k + 1)) ∙ ap (λ (z : ℕ). z * (k + 1)) whole)
      (ap (λ (z : ℕ). share * z) two ∙ mul_left_comm share 2 (n + 1)) shared
    where
      two : k + 1 ≡ 2 * (n + 1)
      two = omega arith

      whole : factor + share ≡ 2 ^ 64
      whole = omega (arith, some_share, div-le_self (2 ^ 63) (n + 1))

      go : (a b c r : ℕ) → a + b ≡ 2 ^ 64 * (k + 1) → b ≡ 2 * c → c + r ≡ 2 ^ 63 → a ≡ 2 ^ 64 * k + 2 * r
      go a b c r e f g = omega arith

  as_product : (q : ℕ) → q * k ≤ 2 ^ 60 → q * factor / 2 ^ 64 ≡ q * k / (k + 1)
  as_product q h = reciprocal q factor k (k + 1) (2 * over) (omega arith) factor_is (lt_of_le_of_lt (le_trans (mul-le-mul_left q bound) h) (lit< tt))
    where
      bound : 2 * over ≤ k
      bound = omega (arith, left)

-- ---- one term

module _ (h n : ℕ) (a : Arc) (q v : ℕ) (H : h ≤ 2 ^ 59) (N : n < 60) (f : ArcFits n a) (e : q ≡ a.p * h / 2 ^ 60) (g : v ≡ q * factor n N / 2 ^ 64) (w : ℕ) (r : w ≡ a.p / (2 * n + 1)) where
  abbrev d : ℕ
  d = 2 * n + 1

  halved : q * 2 ≤ a.p
  halved = subst (λ (z : ℕ). z * 2 ≤ a.p) (sym e) (half a.p h H)

  is : v ≡ q * d / (d + 1)
  is = g ∙ as_product n N q (room (2 ^ 60) a.p q d halved f.small)

  abbrev after : Arc
  after = record { sum = a.sum + w; p = v }

  pub term_fits : ArcFits (n + 1) after
  term_fits =
      record {
        room = go a.sum a.p w v halved (subst (λ (z : ℕ). z ≤ a.p) (sym r) (div-le_self a.p d)) (subst (λ (z : ℕ). z ≤ q) (sym is) (less q d)) f.room;
        small = subst (λ (z : ℕ). (2 * (n + 1) + 1) * z ≤ 2 ^ 60) (sym is) (subst (λ (c : ℕ). c * (q * d / (d + 1)) ≤ 2 ^ 60) two (held (2 ^ 60) a.p q d halved f.small));
      }
    where
      go : (s p t v : ℕ) → q * 2 ≤ p → t ≤ p → v ≤ q → s + 2 * p ≤ 2 ^ 61 → s + t + 2 * v ≤ 2 ^ 61
      go s p t v i j l m = omega arith

      two : d + 2 ≡ 2 * (n + 1) + 1
      two = omega arith

  pub term_at : (s : ℕ) → ArcAt h s n a → ArcAt h s (n + 1) after
  unfolding arc_term arc_sum
  term_at s t =
      record {
        summed = (λ i. t.summed i + r i) ∙ ap (λ (z : ℕ). arc_sum h s n + z / d) t.next ∙ ap (arc_sum h s) (sym (add-one n));
        next = is ∙ ap (λ (x : ℕ). x * d / (d + 1)) (e ∙ ap (λ (x : ℕ). x * h / 2 ^ 60) t.next) ∙ ap (λ (c : ℕ). arc_term h s n * h / 2 ^ 60 * d / c) one ∙ ap (arc_term h s) (sym (add-one n));
      }
    where
      one : d + 1 ≡ 2 * n + 2
      one = omega arith

-- ---- term 0

pub first_fits : (h s q : ℕ) → h ≤ 2 ^ 59 → s ≤ 2 ^ 60 → q ≡ s * h / 2 ^ 60 → ArcFits 1 (record { sum = s; p = q / 2 })
first_fits h s q H S e = let k : q * 2 ≤ s = subst (λ (z : ℕ). z * 2 ≤ s) (sym e) (half s h H) in record { room = omega arith; small = omega arith }

pub first_at : (h s q : ℕ) → q ≡ s * h / 2 ^ 60 → ArcAt h s 1 (record { sum = s; p = q / 2 })
unfolding arc_term arc_sum
first_at h s q e = record { summed = go s; next = ap (λ (z : ℕ). z / 2) (e ∙ sym (mul-one (s * h / 2 ^ 60))) }
  where
    go : (s : ℕ) → s ≡ 0 + s / 1
    go s = omega arith
