-- A term of the series as one product: what it leaves out, and what it is too large by. Assumes nothing.
use Rattle.std.proofs.Common.{◌≡◌, ℕ, ◌+◌, ◌-◌, ◌*◌, ◌/◌, ◌%◌, ◌^◌, ◌<◌, ◌≤◌, sym, ap, ◌∙◌, le_trans, le_refl, mul-le-mul_right, mod-lt, mul_assoc, mul_comm, add-mul, mul-le-mul, lt_of_mul-lt-mul_right, mul-le-mul_left, div-add-mod', mul-add, mul_right_comm, div-mul-le_self, le_of_mul-le-mul_right, arith, lit<}
use native.Mathlib.Nat.{div-eq_of_lt-le, lt-div-mul-add}
use Rattle.angles.specs.SizesInner.{next_of, square_of, Roomy}
use Rattle.angles.proofs.Division.{shift_16}

-- ---- the factor, hi + 2: times d it is above S, by at most 2d
module _ (S d : ℕ) (D : 2 ≤ d) (small : S < 2 ^ 64) where
  abbrev M : ℕ
  M = (2 ^ 64 - 1) / d

  abbrev hi : ℕ
  hi = S * M / 2 ^ 64

  within : hi * d ≤ S
  within =
      le_of_mul-le-mul_right {k = 2 ^ 64}
      (go (mul-le-mul_right d (div-mul-le_self (S * M) (2 ^ 64))) (mul_right_comm hi (2 ^ 64) d) (mul_assoc S M d) (mul-le-mul_left S (div-mul-le_self (2 ^ 64 - 1) d)) (mul-le-mul_left S (omega arith)))
      (lit< tt)
    where
      go : {a b c e f x : ℕ} → a ≤ b → a ≡ x → b ≡ c → c ≤ e → e ≤ f → x ≤ f
      go h1 h2 h3 h4 h5 = omega arith

  pub factor_fits : hi + 2 < 2 ^ 64
  factor_fits = go hi within (mul-le-mul_left hi D)
    where
      go : (h : ℕ) {a : ℕ} → a ≤ S → h * 2 ≤ a → h + 2 < 2 ^ 64
      go h l m = omega arith

  pub factor_near : (hi + 2) * d ≤ S + 2 * d
  factor_near = omega (arith, within, add-mul hi 2 d)

  pub factor_above : S + 1 ≤ (hi + 2) * d
  factor_above = omega (arith, above, add-mul hi 2 d)
    where
      whole : 2 ^ 64 ≤ M * d + d
      whole = omega (arith, lt-div-mul-add {a = 2 ^ 64 - 1} {b = d} (omega arith))

      product : S * M + 1 ≤ hi * 2 ^ 64 + 2 ^ 64
      product = omega (arith, lt-div-mul-add {a = S * M} {b = 2 ^ 64} (lit< tt))

      room : S + 1 ≤ 2 ^ 64
      room = omega arith

      go : (q y m k : ℕ) {s p c e a b z v x : ℕ} → s ≤ c → c ≡ e + q → p ≡ e → a ≤ b → a ≡ p + 1 * d → b ≡ z + k → z ≡ y → v ≤ k → v ≡ q + 1 * d → x ≡ y + m → m ≡ 2 * k → s < x
      go q y m k h1 h2 h3 h4 h5 h6 h7 h8 h9 h10 h11 = omega arith

      above : S < hi * d + 2 * d
      above =
          lt_of_mul-lt-mul_right (2 ^ 64)
          (go (S * d) (hi * d * 2 ^ 64) (2 * d * 2 ^ 64) (2 ^ 64 * d) (mul-le-mul_left S whole) (mul-add S (M * d) d) (mul_assoc S M d) (mul-le-mul_right d product) (add-mul (S * M) 1 d) (add-mul (hi * 2 ^ 64) (2 ^ 64) d) (mul_right_comm hi (2 ^ 64) d) (mul-le-mul_right d room) (add-mul S 1 d)
          (add-mul (hi * d) (2 * d) (2 ^ 64)) (omega arith))

-- ---- the term, by the words of t times the factor
module _ (t u d k g f : ℕ) (D : 2 ≤ d) (parts : g * 2 ^ 64 + f ≡ t * k) where
  abbrev R : ℕ
  R = u * 16

  abbrev S : ℕ
  S = square_of u

  -- the term's first truncation, and its second
  abbrev x : ℕ
  x = t * R / 2 ^ 64

  abbrev w : ℕ
  w = x * R / 2 ^ 64

  same : w / d ≡ next_of u d t
  same = ap (λ (z : ℕ). z / d) (ap (λ (z : ℕ). z * R / 2 ^ 64) (shift_16 t u) ∙ shift_16 (t * u / 2 ^ 60) u)

  split : t * (k * d) ≡ g * d * 2 ^ 64 + f * d
  split = sym (mul_assoc t k d) ∙ ap (λ (z : ℕ). z * d) (sym parts) ∙ add-mul (g * 2 ^ 64) f d ∙ ap (λ (z : ℕ). z + f * d) (mul_right_comm g (2 ^ 64) d)

  below : f < 2 ^ 64 → S + 1 ≤ k * d → w < (g + 1) * d
  below l a =
      lt_of_mul-lt-mul_right (2 ^ 64)
      (go (g * d * 2 ^ 64) (f * d) (1 * d * 2 ^ 64) (div-mul-le_self (x * R) (2 ^ 64)) twice (mul-le-mul_left t a) split (mul-le-mul_right d room) (add-mul f 1 d) (ap (λ (z : ℕ). z * 2 ^ 64) (add-mul g 1 d) ∙ add-mul (g * d) (1 * d) (2 ^ 64)) (omega arith))
    where
      room : f + 1 ≤ 2 ^ 64
      room = omega arith

      squares : R * R ≤ (S + 1) * 2 ^ 64
      squares = omega (arith, lt-div-mul-add {a = R * R} {b = 2 ^ 64} (lit< tt))

      chain : {a b c e y z : ℕ} → a ≤ b → a ≡ y → b ≡ c → c ≤ e → e ≡ z → y ≤ z
      chain h1 h2 h3 h4 h5 = omega arith

      twice : x * R ≤ t * (S + 1)
      twice =
          le_of_mul-le-mul_right {k = 2 ^ 64}
          (chain (mul-le-mul_right R (div-mul-le_self (t * R) (2 ^ 64))) (mul_right_comm x (2 ^ 64) R) (mul_assoc t R R) (mul-le-mul_left t squares) (sym (mul_assoc t (S + 1) (2 ^ 64))))
          (lit< tt)

      go : (p q o : ℕ) {v y a b c e m : ℕ} → v ≤ y → y ≤ a → a ≤ b → b ≡ p + q → c ≤ m → c ≡ q + 1 * d → e ≡ p + o → o ≡ m → v < e
      go p q o h1 h2 h3 h4 h5 h6 h7 h8 = omega arith

  above : k * d ≤ S + 2 * d → 2 * t * d + R ≤ f * d → g * d ≤ w
  above n r = omega (arith, lt_of_mul-lt-mul_right (2 ^ 64) (go (g * d * 2 ^ 64) (f * d) (t * S) (x * R) (w * 2 ^ 64) (t * (2 * d)) (2 * t * d) split (mul-le-mul_left t n) (mul-add t S (2 * d)) left thrice r (lt-div-mul-add {a = x * R} {b = 2 ^ 64} (lit< tt)) (add-mul w 1 (2 ^ 64))))
    where
      thrice : t * (2 * d) ≡ 2 * t * d
      thrice = sym (mul_assoc t 2 d) ∙ ap (λ (z : ℕ). z * d) (mul_comm t 2)

      past : t * R ≤ x * 2 ^ 64 + 2 ^ 64
      past = omega (arith, lt-div-mul-add {a = t * R} {b = 2 ^ 64} (lit< tt))

      chain : (o p : ℕ) {a b c e y z : ℕ} → y ≡ a → a ≤ b → c ≡ b → c ≤ e → e ≡ o + p → z ≡ o + p → y ≤ z
      chain o p h1 h2 h3 h4 h5 h6 = omega arith

      left : t * S ≤ x * R + R
      left =
          le_of_mul-le-mul_right {k = 2 ^ 64}
          (chain (x * 2 ^ 64 * R) (2 ^ 64 * R) (mul_assoc t S (2 ^ 64)) (mul-le-mul_left t (div-mul-le_self (R * R) (2 ^ 64))) (mul_assoc t R R) (mul-le-mul_right R past) (add-mul (x * 2 ^ 64) (2 ^ 64) R) (add-mul (x * R) R (2 ^ 64) ∙ (ap (λ (z : ℕ). z + R * 2 ^ 64) (mul_right_comm x R (2 ^ 64)) ∙ ap (λ (z : ℕ). x * 2 ^ 64 * R + z) (mul_comm R (2 ^ 64)))))
          (lit< tt)

      go : (p q s y v c e : ℕ) {a b z : ℕ} → a ≡ p + q → a ≤ b → b ≡ s + c → s ≤ y + R → c ≡ e → e + R ≤ q → y < v + 2 ^ 64 → z ≡ v + 1 * 2 ^ 64 → p < z
      go p q s y v c e h1 h2 h3 h4 h5 h6 h7 h8 = omega arith

  -- the upper word is the term where the lower one has room
  pub quick_law : {least : ℕ} → f < 2 ^ 64 → S + 1 ≤ k * d → k * d ≤ S + 2 * d → Roomy t u d least → least ≤ f → g ≡ next_of u d t
  quick_law {least} l a n r h = sym (div-eq_of_lt-le d (above n (go (2 * t * d) (mul-le-mul_right d (omega (arith, r.over))) r.left (add-mul (f - 2 * t) (2 * t) d) (ap (λ (z : ℕ). z * d) (omega (arith, r.over))))) (below l a)) ∙ same
    where
      go : (e : ℕ) {a b c fd : ℕ} → a ≤ b → R ≤ a → c ≡ b + e → fd ≡ c → e + R ≤ fd
      go e h1 h2 h3 h4 = omega arith

-- ---- the same, by the products as the code forms them
module _ (t u d h g f : ℕ) (D : 2 ≤ d) (small : square_of u < 2 ^ 64) (factor : h ≡ square_of u * ((2 ^ 64 - 1) / d) / 2 ^ 64) (upper : g ≡ t * (h + 2) / 2 ^ 64) (lower : f ≡ t * (h + 2) % 2 ^ 64) where
  parts : g * 2 ^ 64 + f ≡ t * (h + 2)
  parts = rw (upper, lower) (div-add-mod' (t * (h + 2)) (2 ^ 64))

  low : f < 2 ^ 64
  low = rw lower (mod-lt (t * (h + 2)) (lit< tt))

  enough : square_of u + 1 ≤ (h + 2) * d
  enough = rw factor (factor_above (square_of u) d D small)

  pub term_quick : {least : ℕ} → Roomy t u d least → least ≤ f → g ≡ next_of u d t
  term_quick r l = quick_law t u d (h + 2) g f D parts low enough (rw factor (factor_near (square_of u) d D small)) r l

-- the room that the code asks for: a part of u for what is left out, and for what is too large
module _ (t u d : ℕ) where
  pub room_third : t * 24 ≤ u → 30 ≤ d → Roomy t u d (u / 2 ^ 1 + u / 2 ^ 3 + 2)
  room_third h m = record { over = omega arith; left = le_trans (go (omega arith)) (mul-le-mul {n₁ = u / 2 ^ 1 + u / 2 ^ 3 + 2 - 2 * t} (le_refl _) m) }
    where
      go : 0 ≤ u → u * 16 ≤ (u / 2 ^ 1 + u / 2 ^ 3 + 2 - 2 * t) * 30
      go k = omega arith

  pub room_fourth : t * 720 ≤ u → 56 ≤ d → Roomy t u d (u / 2 ^ 2 + u / 2 ^ 4 + 2)
  room_fourth h m = record { over = omega arith; left = le_trans (go (omega arith)) (mul-le-mul {n₁ = u / 2 ^ 2 + u / 2 ^ 4 + 2 - 2 * t} (le_refl _) m) }
    where
      go : 0 ≤ u → u * 16 ≤ (u / 2 ^ 2 + u / 2 ^ 4 + 2 - 2 * t) * 56
      go k = omega arith

  pub room_later : t * 40320 ≤ u → 90 ≤ d → Roomy t u d (u / 2 ^ 3 + u / 2 ^ 4 + 2)
  room_later h m = record { over = omega arith; left = le_trans (go (omega arith)) (mul-le-mul {n₁ = u / 2 ^ 3 + u / 2 ^ 4 + 2 - 2 * t} (le_refl _) m) }
    where
      go : 0 ≤ u → u * 16 ≤ (u / 2 ^ 3 + u / 2 ^ 4 + 2 - 2 * t) * 90
      go k = omega arith
