-- Two floats are the same exactly when their canonical digits are, and a canonical text is never longer than a text of its problem. Assumes nothing.
use Rattle.std.specs.Prelude.{ℕ, zero, suc, ◌+◌, ◌/◌, ◌%◌, ◌^◌, ◌≤◌, ◌<◌, ◌≡◌, refl, ◌↔◌, Bool, true, false, cond, ◌&&◌, List, [], ◌∷◌, ◌++◌, length, get_or, Option, Some}
use Rattle.std.proofs.Common.{arith, sym, ◌∙◌, ap, length-append, eq-eqb, leb-true, leb-false}
use Rattle.std.proofs.Math.Nat.{pow-succ'}
use lib.Dec.{T, eqb}
use Rattle.std.proofs.lemmas.List.{length-replicate}
use Rattle.std.proofs.Math.ListN.{get_or-eq_default}
use Rattle.std.proofs.Math.Arith.{digits_lt, digits_mod}
use Rattle.std.specs.Float.Ieee as Ieee
use Rattle.std.specs.Float.{binary64}
use Rattle.std.specs.Float.Ieee.{fits, to_bits, nan_bits, is_nan}
use Rattle.std.specs.Float.Ieee.Bits.{to_bits-of_bits, nan_bits_is}
use Rattle.text.specs.Bytes.{bytes}
use Rattle.text.specs.Hex.{hex_text, real_text, float}
use Rattle.text.specs.Hex.{digit, real_at}
use Rattle.text.specs.Forms.{loose}
use Rattle.canonical_laws.specs.Pieces.{Piece, lit, num, non, text, flat, pieces, print}
use Rattle.canonical_laws.specs.Positions.{here}
use Rattle.canonical_laws.specs.FormLaws.{loose_lawful}
use Rattle.canonical_laws.specs.Positions.{some_pair}
use Rattle.canonical_laws.specs.Texts.{Accepted, canonical, problem}
use Rattle.canonical_laws.specs.TextLaws.{stands}
use Rattle.canonical_laws.specs.Looks.{Digits, value, blanks, Look, Looks}
use Rattle.canonical_laws.specs.LookLaws.{looks}

-- ---- floats

end_digit : digit 0 ≡ 16
unfolding digit
end_digit = refl

reads_alone : (x : Ieee.Float) → T (fits binary64 x) → real_at (real_text x) 0 ≡ Some (x, 0 + length (real_text x))
reads_alone x f =
    let s = real_text x in
    let e : get_or s (0 + length s) 0 ≡ 0 = get_or-eq_default s 0 (omega arith) in
    loose_lawful.back s 0 x f (here s) (rw (e, end_digit) (omega arith))

pub same_float : (x y : Ieee.Float) → T (fits binary64 x) → T (fits binary64 y) → (x ≡ y) ↔ (real_text x ≡ real_text y)
same_float x y f g = (
  ap real_text,
  λ e.
      let a = reads_alone x f in
      let b = reads_alone y g in
      let c : real_at (real_text x) 0 ≡ real_at (real_text y) 0 = ap (λ (s : List ℕ). real_at s 0) e in
      let d : ◌≡◌ {A = Option (Ieee.Float × ℕ)} (Some (x, 0 + length (real_text x))) (Some (y, 0 + length (real_text y))) = sym a ∙ c ∙ b in
      (some_pair d).0,
)

-- ---- lengths

pow_pos : (k : ℕ) → 0 < 16 ^ k
pow_pos zero = omega arith
pow_pos (suc k) = let h = pow_pos k in rw (pow-succ' 16 k) (omega arith)

value_lt : (ds : List ℕ) (k : ℕ) → Digits ds → value k ds < 16 ^ k
unfolding value
value_lt ds zero d = omega arith
value_lt [] (suc k) d = pow_pos (suc k)
value_lt (c ∷ ds) (suc k) d = rw (pow-succ' 16 k) (digits_lt d.0 (value_lt ds k d.1))

value_nil : (k : ℕ) → value k [] ≡ 0
unfolding value
value_nil zero = refl
value_nil (suc k) = refl

hex_size : (k x : ℕ) (b : Bool) → eqb (x % 16 ^ k) 0 ≡ b → length (hex_text (suc k) x) ≡ suc (length (cond b [] (hex_text k (x % 16 ^ k))))
unfolding hex_text
hex_size k x b e = rw e

low : (c k : ℕ) (ds : List ℕ) → Digits ds → value (suc k) (c ∷ ds) % 16 ^ k ≡ value k ds
unfolding value
low c k ds d = digits_mod (digit c) (value_lt ds k d)

-- no more digits are written of a value than it has
text_short : (ds : List ℕ) (k : ℕ) → Digits ds → 0 < length ds → length ds ≤ k → length (hex_text k (value k ds)) ≤ length ds
text_short [] k d p l = absurd (omega arith)
text_short (c ∷ ds) zero d p l = absurd (omega arith)
text_short (c ∷ []) (suc k) d p l =
    let e : value (suc k) (c ∷ []) % 16 ^ k ≡ 0 = low c k [] tt ∙ value_nil k in
    omega (arith, hex_size k (value (suc k) (c ∷ [])) true (eq-eqb _ _ e))
text_short (c ∷ b ∷ ds) (suc k) d p l = go (text_short (b ∷ ds) k d.1 (omega arith) (omega arith)) (eqb (value (suc k) (c ∷ b ∷ ds) % 16 ^ k) 0) refl
  where
    go : length (hex_text k (value k (b ∷ ds))) ≤ suc (length ds) → (q : Bool) → eqb (value (suc k) (c ∷ b ∷ ds) % 16 ^ k) 0 ≡ q → length (hex_text (suc k) (value (suc k) (c ∷ b ∷ ds))) ≤ suc (suc (length ds))
    go h true e = omega (arith, hex_size k (value (suc k) (c ∷ b ∷ ds)) true e)
    go h false e = omega (arith, hex_size k (value (suc k) (c ∷ b ∷ ds)) false e, ap (λ (y : ℕ). length (hex_text k y)) (low c k (b ∷ ds) d.1))

-- a NaN has four digits or more
no_nan : (y : ℕ) → y % 4503599627370496 ≡ 0 → nan_bits binary64 y ≡ false
unfolding nan_bits
no_nan y e = rw (eq-eqb _ _ e) (and-false (eqb (y % 9223372036854775808 / 4503599627370496) 2047))
  where
    and-false : (b : Bool) → (b && false) ≡ false
    and-false true = refl
    and-false false = refl

few_digits : (ds : List ℕ) → length ds ≤ 3 → value 16 ds % 4503599627370496 ≡ 0
unfolding value
few_digits [] l = refl
few_digits (a ∷ []) l = omega arith
few_digits (a ∷ b ∷ []) l = omega arith
few_digits (a ∷ b ∷ c ∷ []) l = omega arith
few_digits (a ∷ b ∷ c ∷ d ∷ ds) l = absurd (omega arith)

is_nan_law : (x : Ieee.Float) → is_nan x ≡ true → length (real_text x) ≡ 4
unfolding is_nan to_bits hex_text
is_nan_law Ieee.nan h = refl
is_nan_law (Ieee.inf s) h = let z : ◌≡◌ {A = ℕ} 0 1 = cc in absurd (omega arith)
is_nan_law (Ieee.fin s m e) h = let z : ◌≡◌ {A = ℕ} 0 1 = cc in absurd (omega arith)

float_short : (ds : List ℕ) → Digits ds → 0 < length ds → length ds ≤ 16 → length (real_text (float (value 16 ds))) ≤ length ds
float_short ds d p l = go (nan_bits binary64 (value 16 ds)) refl
  where
    go : (b : Bool) → nan_bits binary64 (value 16 ds) ≡ b → length (real_text (float (value 16 ds))) ≤ length ds
    go false q =
        let y = value 16 ds in
        let e : to_bits binary64 (float y) ≡ y = to_bits-of_bits binary64 y (value_lt ds 16 d) (rw (← nan_bits_is binary64 y, q) tt) in
        rw e (text_short ds 16 d p l)
    go true q = by (lib.Dec.leb 4 (length ds)) refl
      where
        by : (b : Bool) → lib.Dec.leb 4 (length ds) ≡ b → length (real_text (float (value 16 ds))) ≤ length ds
        by true h = omega (arith, is_nan_law (float (value 16 ds)) (sym (nan_bits_is binary64 (value 16 ds)) ∙ q), leb-true 4 (length ds) h)
        by false h =
            let m = leb-false 4 (length ds) h in
            let n = no_nan (value 16 ds) (few_digits ds (omega arith)) in
            let z : ◌≡◌ {A = ℕ} 0 1 = cc in
            absurd (omega arith)

long : (n : ℕ) (w : List ℕ) → length (blanks n ++ w) ≡ suc n + length w
long n w = length-append (blanks n) w ∙ ap (λ (m : ℕ). suc m + length w) (length-replicate n 32)

piece_short : (p : Piece) (u : List ℕ) → Look p u → length (text p) ≤ length u
piece_short (lit w) u h = omega (arith, ap length h)
piece_short (num x) u h =
    let f = float_short h.1 h.3 h.4 h.5 in
    let e : length (real_text x) ≡ length (real_text (float (value 16 h.1))) = ap (λ (y : Ieee.Float). length (real_text y)) h.6 in
    omega (arith, f, e, ap length h.2, long h.0 h.1)
piece_short non u h = omega (arith, ap length h.1, long h.0 (bytes "none"))

pub flat_short : (ps : List Piece) (w : List ℕ) → Looks ps w → length (flat ps) ≤ length w
flat_short [] w h = omega arith
flat_short (p ∷ ps) w h = omega (arith, length-append (text p) (flat ps), piece_short p h.0 h.3, flat_short ps h.1 h.4, ap length h.2, length-append h.0 h.1)

-- a canonical text is never longer than its source
pub never_longer : (t : List ℕ) → Accepted loose t → length (canonical t) ≤ length t
unfolding print
never_longer t h =
    let r = stands loose t h.0 h.1.0 h.1.1 in
    let w = looks t (pieces (problem loose t)) 0 (length t) (omega arith) r.1 in
    omega (arith, flat_short (pieces (problem loose t)) w.0 w.1, w.3)
