-- In the strict form reading and writing a pattern are inverse: what is written of it is read as it, and what is read as it is what is written of it. Assumes nothing.
use Rattle.std.specs.Prelude.{ℕ, zero, suc, ◌+◌, ◌-◌, ◌*◌, ◌/◌, ◌%◌, ◌^◌, ◌≤◌, ◌<◌, ◌≡◌, refl, List, [], ◌∷◌, Bool, true, false, eqb, ltb, length, get_or, ◌⊎◌, Some}
use Rattle.std.proofs.Common.{arith, add-zero, add_assoc, mod-lt, div-lt_iff_lt-mul, div-add-mod', zero-mul, mod-eq_of_lt, sym, ◌∙◌, ap, eq-eqb, ne_eqb, lt-ltb, le-ltb, ltb-true, ltb-false, eqb-true, inl, inr, ⊎_elim}
use Rattle.std.proofs.Math.Nat.{pow-succ', zero-div}
use Rattle.std.proofs.Math.Arith.{digits_lt, digits_div, digits_mod}
use Rattle.std.proofs.lemmas.Bool.{eqb-false}
use Rattle.text.specs.Hex.{digit_byte, hex_text}
use Rattle.canonical_laws.specs.Strict.{capital, strict_more, stop, strict_hex_at}
use Rattle.canonical_laws.specs.Positions.{is_at_cons, start, nothing, none_some, some_pair}
use Rattle.text.specs.Lines.{is_at}
use Rattle.canonical_laws.specs.CapitalLaws.{capital_low, capital_decimal, capital_between, capital_letter, capital_high, more_step, more_stop, more_end, strict_step, strict_none, capital_within}

-- a digit's byte is read as the digit
pub val_char : (d : ℕ) → d < 16 → capital (digit_byte d) ≡ d
unfolding digit_byte
val_char d h = go (ltb d 10) refl
  where
    go : (b : Bool) → ltb d 10 ≡ b → capital (digit_byte d) ≡ d
    go true e = let l : d < 10 = ltb-true d 10 e in simp e (capital_decimal (48 + d) (omega arith) (omega arith) ∙ omega arith)
    go false e = let l : 10 ≤ d = ltb-false d 10 e in simp e (capital_letter (55 + d) (omega arith) (omega arith) ∙ omega arith)

pub more_none : (s : List ℕ) (k at m last : ℕ) → 16 ≤ capital (get_or s at 0) → strict_more s k at m last ≡ stop m last at
more_none s zero at m last h = more_end s at m last 0 refl
more_none s (suc k) at m last h = more_stop s at m last _ refl (suc k) (omega arith) h

text_nil : (k x : ℕ) → x % 16 ^ k ≡ 0 → hex_text (suc k) x ≡ digit_byte (x / 16 ^ k) ∷ []
unfolding hex_text
text_nil k x e = simp (eq-eqb _ _ e)

text_cons : (k x : ℕ) → (x % 16 ^ k ≡ 0 → ⊥) → hex_text (suc k) x ≡ digit_byte (x / 16 ^ k) ∷ hex_text k (x % 16 ^ k)
unfolding hex_text
text_cons k x e = simp (ne_eqb _ _ e)

pow_pos : (k : ℕ) → 0 < 16 ^ k
pow_pos zero = omega arith
pow_pos (suc k) = let h = pow_pos k in rw (pow-succ' 16 k) (omega arith)

top_lt : (k x : ℕ) → x < 16 ^ suc k → x / 16 ^ k < 16
top_lt k x h = (div-lt_iff_lt-mul (pow_pos k)).1 (rw (pow-succ' 16 k) at h)

shift : (at n : ℕ) → at + 1 + n ≡ at + suc n
shift at n = omega arith

sum_is : (m x k : ℕ) → m + x / 16 ^ k * 16 ^ k + x % 16 ^ k ≡ m + x
sum_is m x k = add_assoc m (x / 16 ^ k * 16 ^ k) (x % 16 ^ k) ∙ ap (λ (y : ℕ). m + y) (div-add-mod' x (16 ^ k))

stop_is : (m last at : ℕ) → (last ≡ 0 → ⊥) → stop m last at ≡ Some (m, at)
stop_is m last at n = simp (ne_eqb _ _ n)

zero_times : (a : ℕ) → 0 * a + 0 ≡ 0
zero_times a = rw zero-mul

top_some : (k x : ℕ) → x % 16 ^ k ≡ 0 → (x ≡ 0 → ⊥) → x / 16 ^ k ≡ 0 → ⊥
top_some k x e n z = n (sym (div-add-mod' x (16 ^ k)) ∙ rw (e, z) (zero_times _))

module _ (s : List ℕ) where
  step : (k x at m last : ℕ) (t : List ℕ) → x < 16 ^ suc k → is_at s at (digit_byte (x / 16 ^ k) ∷ t) ≡ true
      → strict_more s (suc k) at m last ≡ strict_more s k (at + 1) (m + x / 16 ^ k * 16 ^ k) (x / 16 ^ k)
  step k x at m last t l h =
      let d = x / 16 ^ k in
      let v : d ≡ capital (get_or s at 0) = sym (ap capital (is_at_cons s at (digit_byte d) t h).0 ∙ val_char d (top_lt k x l)) in
      let z : suc k - 1 ≡ k = omega arith in
      rw z at (more_step s at m last d v (suc k) (omega arith) (top_lt k x l))

  -- the text of x below 16 ^ k, x no 0, followed by no digit, adds x
  abbrev Back : ℕ → Type 0
  Back k = (x at m last : ℕ) → x < 16 ^ k → (x ≡ 0 → ⊥) → is_at s at (hex_text k x) ≡ true → 16 ≤ capital (get_or s (at + length (hex_text k x)) 0)
      → strict_more s k at m last ≡ Some (m + x, at + length (hex_text k x))

  last_digit : (k x at m last : ℕ) → x < 16 ^ suc k → (x ≡ 0 → ⊥) → x % 16 ^ k ≡ 0 → is_at s at (hex_text (suc k) x) ≡ true
      → 16 ≤ capital (get_or s (at + length (hex_text (suc k) x)) 0) → strict_more s (suc k) at m last ≡ Some (m + x, at + length (hex_text (suc k) x))
  last_digit k x at m last l n q i e =
      let t = text_nil k x q in
      let v : m + x / 16 ^ k * 16 ^ k ≡ m + x = sym (add-zero _) ∙ ap (λ (y : ℕ). m + x / 16 ^ k * 16 ^ k + y) (sym q) ∙ sum_is m x k in
      rw t (step k x at m last [] l (rw t at i) ∙ more_none s k (at + 1) _ _ (rw t at e) ∙ stop_is _ _ _ (top_some k x q n) ∙ rw v)

  next_digit : (k x at m last : ℕ) → Back k → x < 16 ^ suc k → (x % 16 ^ k ≡ 0 → ⊥) → is_at s at (hex_text (suc k) x) ≡ true
      → 16 ≤ capital (get_or s (at + length (hex_text (suc k) x)) 0) → strict_more s (suc k) at m last ≡ Some (m + x, at + length (hex_text (suc k) x))
  next_digit k x at m last back l q i e =
      let t = text_cons k x q in
      let u = hex_text k (x % 16 ^ k) in
      let i' = rw t at i in
      rw (t, ← shift at (length u))
      (step k x at m last u l i'
      ∙ back (x % 16 ^ k) (at + 1) _ _ (mod-lt x (pow_pos k)) q (is_at_cons s at _ u i').1 (rw (shift at (length u)) (rw t at e))
      ∙ rw (sum_is m x k))

  pub more_back : (k : ℕ) → Back k
  more_back zero x at m last l n i e = absurd (n (omega arith))
  more_back (suc k) x at m last l n i e = go (more_back k) (eqb (x % 16 ^ k) 0) refl
    where
      go : Back k → (b : Bool) → eqb (x % 16 ^ k) 0 ≡ b → strict_more s (suc k) at m last ≡ Some (m + x, at + length (hex_text (suc k) x))
      go back true q = last_digit k x at m last l n (eqb-true _ _ q) i e
      go back false q = next_digit k x at m last back l (eqb-false _ _ q) i e

  first_is : (x at : ℕ) (t : List ℕ) → x < 2 ^ 64 → is_at s at (digit_byte (x / 16 ^ 15) ∷ t) ≡ true → strict_hex_at s at ≡ strict_more s 15 (at + 1) (x / 16 ^ 15 * 16 ^ 15) 1
  first_is x at t l h =
      let d = x / 16 ^ 15 in
      let b : d < 16 = top_lt 15 x l in
      strict_step s at d (sym (ap capital (is_at_cons s at (digit_byte d) t h).0 ∙ val_char d b)) b

  -- a pattern's text, followed by no digit, is read as the pattern
  pub hex_back : (x at : ℕ) → x < 2 ^ 64 → is_at s at (hex_text 16 x) ≡ true → 16 ≤ capital (get_or s (at + length (hex_text 16 x)) 0)
      → strict_hex_at s at ≡ Some (x, at + length (hex_text 16 x))
  hex_back x at l i e = go (eqb (x % 16 ^ 15) 0) refl
    where
      go : (b : Bool) → eqb (x % 16 ^ 15) 0 ≡ b → strict_hex_at s at ≡ Some (x, at + length (hex_text 16 x))
      go true q =
          let t = text_nil 15 x (eqb-true _ _ q) in
          let v : x / 16 ^ 15 * 16 ^ 15 ≡ x = let z = eqb-true (x % 16 ^ 15) 0 q in omega arith in
          rw t (first_is x at [] l (rw t at i) ∙ more_none s 15 (at + 1) _ _ (rw t at e) ∙ rw v)
      go false q =
          let n = eqb-false (x % 16 ^ 15) 0 q in
          let t = text_cons 15 x n in
          let u = hex_text 15 (x % 16 ^ 15) in
          let i' = rw t at i in
          rw (t, ← shift at (length u))
          (first_is x at u l i'
          ∙ more_back 15 (x % 16 ^ 15) (at + 1) _ 1 (mod-lt x (pow_pos 15)) n (is_at_cons s at _ u i').1 (rw (shift at (length u)) (rw t at e))
          ∙ rw (div-add-mod' x (16 ^ 15)))

-- ---- the other way: what is read is the text of what it is read as

-- only one byte is read as a digit
pub char_val : (b : ℕ) → capital b < 16 → b ≡ digit_byte (capital b)
unfolding digit_byte
char_val b h = go (ltb b 48) (ltb b 58) (ltb b 65) (ltb b 71) refl refl refl refl
  where
    go : (p q r t : Bool) → ltb b 48 ≡ p → ltb b 58 ≡ q → ltb b 65 ≡ r → ltb b 71 ≡ t → b ≡ digit_byte (capital b)
    go true q r t e1 e2 e3 e4 = let z = capital_low b (ltb-true b 48 e1) in absurd (omega arith)
    go false true r t e1 e2 e3 e4 =
        let l : 48 ≤ b = ltb-false b 48 e1 in
        let u : b < 58 = ltb-true b 58 e2 in
        rw (capital_decimal b l u) (simp (lt-ltb (b - 48) 10 (omega arith)) (omega arith))
    go false false true t e1 e2 e3 e4 = let z = capital_between b (ltb-false b 58 e2) (ltb-true b 65 e3) in absurd (omega arith)
    go false false false true e1 e2 e3 e4 =
        let l : 65 ≤ b = ltb-false b 65 e3 in
        rw (capital_letter b l (ltb-true b 71 e4)) (simp (le-ltb (b - 65 + 10) 10 (omega arith)) (omega arith))
    go false false false false e1 e2 e3 e4 = let z = capital_high b (ltb-false b 71 e4) in absurd (omega arith)

abbrev Read : List ℕ → ℕ → ℕ → ℕ → ℕ → ℕ → ℕ → Type 0
Read s k at m last y j =
    (r : ℕ) × (y ≡ m + r) × (r < 16 ^ k) × (((r ≡ 0) × (j ≡ at) × (last ≡ 0 → ⊥)) ⊎ ((r ≡ 0 → ⊥) × (is_at s at (hex_text k r) ≡ true) × (j ≡ at + length (hex_text k r))))

stop_forth : (m last at y j : ℕ) → stop m last at ≡ Some (y, j) → (last ≡ 0 → ⊥) × (y ≡ m) × (j ≡ at)
stop_forth m last at y j e = go (eqb last 0) refl
  where
    go : (b : Bool) → eqb last 0 ≡ b → (last ≡ 0 → ⊥) × (y ≡ m) × (j ≡ at)
    go true q = none_some (rw q at e)
    go false q = let w = some_pair (rw q at e) in (eqb-false last 0 q, sym w.0, sym w.1)

stopped : (s : List ℕ) (k at m last y j : ℕ) → stop m last at ≡ Some (y, j) → Read s k at m last y j
stopped s k at m last y j e =
    let f = stop_forth m last at y j e in
    let z = pow_pos k in
    (0, omega arith, z, inl (refl, f.2, f.0))

zero_over : (k : ℕ) → 0 / 16 ^ k ≡ 0
zero_over k = zero-div (16 ^ k)

zero_rest : (k : ℕ) → 0 % 16 ^ k ≡ 0
zero_rest k = mod-eq_of_lt (pow_pos k)

-- a digit before what was read
module _ (s : List ℕ) (k at m last v y j r' r : ℕ) (h : v < 16) (l : at < length s) (e : get_or s at 0 ≡ digit_byte v) (b : r' < 16 ^ k) (is : r ≡ v * 16 ^ k + r') where
  top : r / 16 ^ k ≡ v
  top = rw is (digits_div v b)

  low : r % 16 ^ k ≡ r'
  low = rw is (digits_mod v b)

  small : r < 16 ^ suc k
  small = rw (is, pow-succ' 16 k) (digits_lt h b)

  ahead_one : y ≡ m + r → (r' ≡ 0) × (j ≡ at + 1) × (v ≡ 0 → ⊥) → Read s (suc k) at m last y j
  ahead_one p c =
      let t : hex_text (suc k) r ≡ digit_byte v ∷ [] = text_nil k r (low ∙ c.0) ∙ rw top in
      (r, p, small, inr ((λ z. c.2 (sym top ∙ ap (λ (x : ℕ). x / 16 ^ k) z ∙ zero_over k)), rw t (start s at (digit_byte v) [] l e (nothing s (at + 1) (omega arith))), rw t c.1))

  ahead_more : y ≡ m + r → (r' ≡ 0 → ⊥) × (is_at s (at + 1) (hex_text k r') ≡ true) × (j ≡ at + 1 + length (hex_text k r')) → Read s (suc k) at m last y j
  ahead_more p c =
      let t : hex_text (suc k) r ≡ digit_byte v ∷ hex_text k r' = text_cons k r (λ z. c.0 (sym low ∙ z)) ∙ rw (top, low) in
      (r, p, small, inr ((λ z. c.0 (sym low ∙ ap (λ (x : ℕ). x % 16 ^ k) z ∙ zero_rest k)), rw t (start s at (digit_byte v) (hex_text k r') l e c.1), rw t (c.2 ∙ shift at (length (hex_text k r')))))

ahead : (s : List ℕ) (k at m last v y j : ℕ) → v < 16 → at < length s → get_or s at 0 ≡ digit_byte v → Read s k (at + 1) (m + v * 16 ^ k) v y j → Read s (suc k) at m last y j
ahead s k at m last v y j h l e i =
    let r' = i.0 in
    let p = i.1 ∙ add_assoc m (v * 16 ^ k) r' in
    ⊎_elim (λ c. ahead_one s k at m last v y j r' _ h l e i.2 refl p c) (λ c. ahead_more s k at m last v y j r' _ h l e i.2 refl p c) i.3

pub forth : (s : List ℕ) (k at m last y j : ℕ) → strict_more s k at m last ≡ Some (y, j) → Read s k at m last y j
forth s zero at m last y j e = stopped s 0 at m last y j (sym (more_end s at m last 0 refl) ∙ e)
forth s (suc k) at m last y j e = go (λ at m last e. forth s k at m last y j e) (ltb (capital (get_or s at 0)) 16) refl
  where
    go : ((at m last : ℕ) → strict_more s k at m last ≡ Some (y, j) → Read s k at m last y j) → (b : Bool) → ltb (capital (get_or s at 0)) 16 ≡ b → Read s (suc k) at m last y j
    go back true q =
        let v = capital (get_or s at 0) in
        let h : v < 16 = ltb-true v 16 q in
        let z : suc k - 1 ≡ k = omega arith in
        let f : strict_more s (suc k) at m last ≡ strict_more s k (at + 1) (m + v * 16 ^ k) v = rw z at (more_step s at m last v refl (suc k) (omega arith) h) in
        ahead s k at m last v y j h (capital_within s at h) (char_val (get_or s at 0) h) (back (at + 1) (m + v * 16 ^ k) v (sym f ∙ e))
    go back false q = stopped s (suc k) at m last y j (sym (more_none s (suc k) at m last (ltb-false _ _ q)) ∙ e)

-- what is read as the pattern y is the text of y
pub hex_forth : (s : List ℕ) (at y j : ℕ) → strict_hex_at s at ≡ Some (y, j) → (y < 2 ^ 64) × (is_at s at (hex_text 16 y) ≡ true) × (j ≡ at + length (hex_text 16 y))
hex_forth s at y j e = go (ltb (capital (get_or s at 0)) 16) refl
  where
    go : (b : Bool) → ltb (capital (get_or s at 0)) 16 ≡ b → (y < 2 ^ 64) × (is_at s at (hex_text 16 y) ≡ true) × (j ≡ at + length (hex_text 16 y))
    go true q =
        let v = capital (get_or s at 0) in
        let h : v < 16 = ltb-true v 16 q in
        let l = capital_within s at h in
        let d = char_val (get_or s at 0) h in
        let i = forth s 15 (at + 1) (v * 1152921504606846976) 1 y j (sym (strict_step s at v refl h) ∙ e) in
        let r = i.0 in
        let T = top s 15 at 0 0 v y j r y h l d i.2 i.1 in
        let L = low s 15 at 0 0 v y j r y h l d i.2 i.1 in
        let S = small s 15 at 0 0 v y j r y h l d i.2 i.1 in
        ⊎_elim
        (λ c.
        let t : hex_text 16 y ≡ digit_byte v ∷ [] = text_nil 15 y (L ∙ c.0) ∙ rw T in
        (S, rw t (start s at (digit_byte v) [] l d (nothing s (at + 1) (omega arith))), rw t c.1))
        (λ c.
        let t : hex_text 16 y ≡ digit_byte v ∷ hex_text 15 r = text_cons 15 y (λ z. c.0 (sym L ∙ z)) ∙ rw (T, L) in
        (S, rw t (start s at (digit_byte v) (hex_text 15 r) l d c.1), rw t (c.2 ∙ shift at (length (hex_text 15 r)))))
        i.3
    go false q = none_some (sym (strict_none s at _ refl (ltb-false _ _ q)) ∙ e)
