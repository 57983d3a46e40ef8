-- Facts of numbers' texts that the writer's proofs cite. Assumes nothing.
use Prim.Native.Nat.{ℕ, zero, suc, ◌+◌, ◌-◌, ◌*◌, ◌/◌, ◌%◌, ◌^◌, ◌≤◌, ◌<◌, zero-le}
use native.Mathlib.Omega.{arith}
use native.Mathlib.Numerals.{add-one}
use native.Mathlib.Nat.{mod-lt, div-lt_iff_lt-mul, pow-succ'}
use mathlib.Core.Path.{◌≡◌, refl, ◌∙◌}
use mathlib.Core.List.{List, [], ◌∷◌, ◌++◌}
use mathlib.Core.Bool.{Bool, true, false, cond, not, beq}
use lib.Dec.{T, eqb}
use lib.ListN.{length, set, take, drop, get_or}
use lib.Seq.{sets}
use Rattle.std.proofs.Common.{get_or-take, get_or-drop}
use lib.Ieee.{Float, nan, inf, fin, eq, ne, is_nan, up, down}
use borrow.Author.Tests.{eq-eqb, ne_eqb, lt-ltb, le-ltb}
use Rattle.text.specs.Hex.{digit_byte, hex_text}
use Rattle.text_writer.specs.Puts.{Puts}
use Rattle.text_writer.specs.PutLaws.{puts_none}
use Rattle.text_writer.specs.Texts.{digits}

-- ---- decimal

pub digits_one : (places n : ℕ) → 0 < places → n < 10 → digits places n ≡ (48 + n) ∷ []
unfolding digits
digits_one zero n p h = absurd (omega arith)
digits_one (suc places) n p h = simp (lt-ltb _ _ h)

pub digits_more : (places n : ℕ) → 0 < places → 10 ≤ n → digits places n ≡ digits (places - 1) (n / 10) ++ (48 + n % 10) ∷ []
unfolding digits
digits_more zero n p h = absurd (omega arith)
digits_more (suc places) n p h = let z : suc places - 1 ≡ places = omega arith in rw z (simp (le-ltb _ _ h))

pub digits_none : (b : List ℕ) (at places n : ℕ) → places ≡ 0 → Puts b at (digits places n) places b at
unfolding digits
digits_none b at places n e = rw e (puts_none b at 0)

-- ---- hexadecimal

-- what is still to write: nothing of 0
unfoldable pub hex_rest : ℕ → ℕ → List ℕ
hex_rest k x = cond (eqb x 0) [] (hex_text k x)

pub text_is : (x : ℕ) → hex_text 16 x ≡ digit_byte (x / 1152921504606846976) ∷ hex_rest 15 (x % 1152921504606846976)
unfolding hex_text hex_rest
text_is x = refl

pub rest_none : (k x : ℕ) → x ≡ 0 → hex_rest k x ≡ []
unfolding hex_rest
rest_none k x e = simp (eq-eqb _ _ e)

pub rest_some : (k x u : ℕ) → (x ≡ 0 → ⊥) → 0 < k → u ≡ 16 ^ (k - 1) → hex_rest k x ≡ digit_byte (x / u) ∷ hex_rest (k - 1) (x % u)
unfolding hex_text hex_rest
rest_some zero x u n p e = absurd (omega arith)
rest_some (suc k) x u n p e = let z : suc k - 1 ≡ k = omega arith in rw (e, z) (simp (ne_eqb _ _ n))

pub hex_short : (k x : ℕ) → length (hex_text k x) ≤ k
unfolding hex_text
hex_short zero x = zero-le
hex_short (suc k) x = go (hex_short k (x % 16 ^ k)) (eqb (x % 16 ^ k) 0)
  where
    go : length (hex_text k (x % 16 ^ k)) ≤ k → (b : Bool) → length (digit_byte (x / 16 ^ k) ∷ cond b [] (hex_text k (x % 16 ^ k))) ≤ suc k
    go h true = omega arith
    go h false = omega arith

sixteenth : (k : ℕ) → 0 < k → 16 ^ k ≡ 16 * 16 ^ (k - 1)
sixteenth zero p = absurd (omega arith)
sixteenth (suc k) p = let z : suc k - 1 ≡ k = omega arith in rw z (pow-succ' 16 k)

k_pos : (k w x : ℕ) → w ≡ 16 ^ k → x < w → (x ≡ 0 → ⊥) → 0 < k
k_pos zero w x e h n = absurd (n (omega arith))
k_pos (suc k) w x e h n = omega arith

-- a turn of the loop: what is left is below the weight w, and the next weight is its sixteenth
pub record Turn (k w x : ℕ) : Type 0 where
  pub more : 0 < k
  pub weight : w / 16 ≡ 16 ^ (k - 1)
  pub pos : 0 < w / 16
  pub digit : x / (w / 16) < 16
  pub less : x % (w / 16) < w / 16

pub turn : (k w x : ℕ) → w ≡ 16 ^ k → 0 < w → x < w → (x ≡ 0 → ⊥) → Turn k w x
turn k w x e g h n =
    let p = k_pos k w x e h n in
    let s = sixteenth k p in
    let q : 0 < w / 16 = omega arith in
    let z : w ≡ 16 * (w / 16) = omega arith in
    record { more = p; weight = omega arith; pos = q; digit = (div-lt_iff_lt-mul q).1 (omega arith); less = mod-lt x q }

-- ---- one byte after another

pub puts_turn : (b t u : List ℕ) (i c : ℕ) → t ≡ c ∷ u → sets b i t ≡ sets (set b i c) (i + 1) u
puts_turn b t u i c e = rw (e, add-one)

pub ends_turn : (t u : List ℕ) (i c : ℕ) → t ≡ c ∷ u → i + length t ≡ i + 1 + length u
ends_turn t u i c e = rw e (omega arith)

pub puts_end : (b t : List ℕ) (i : ℕ) → t ≡ [] → b ≡ sets b i t
puts_end b t i e = rw e

pub ends_end : (i : ℕ) (t : List ℕ) → t ≡ [] → i ≡ i + length t
ends_end i t e = rw e (omega arith)

-- a float of a part is one of the whole
pub part_at : (v : List Float) (from n k : ℕ) (d : Float) → k < n → get_or (take (from + n - from) (drop from v)) k d ≡ get_or v (from + k) d
part_at v from n k d h = get_or-take (from + n - from) (drop from v) k d (omega arith) ∙ get_or-drop from v k d

-- ---- the NaN

same_sign : (s : Bool) → beq s s ≡ true
same_sign true = refl
same_sign false = refl

self_equal : (n : ℕ) → eqb n n ≡ true
self_equal n = eq-eqb n n refl

-- a float that is not equal to itself is the NaN
pub unequal_nan : (x : Float) → ne x x ≡ true → x ≡ nan
unfolding ne eq
unequal_nan nan h = refl
unequal_nan (inf s) h = let h' = simp (same_sign s) at h in let z : ◌≡◌ {A = ℕ} 0 1 = cc in absurd (omega arith)
unequal_nan (fin s m e) h = let h' = simp (self_equal (m * up e * down e), same_sign s) at h in let z : ◌≡◌ {A = ℕ} 0 1 = cc in absurd (omega arith)

pub equal_no_nan : (x : Float) → ne x x ≡ false → T (not (is_nan x))
unfolding ne eq is_nan
equal_no_nan nan h = let z : ◌≡◌ {A = ℕ} 0 1 = cc in absurd (omega arith)
equal_no_nan (inf s) h = tt
equal_no_nan (fin s m e) h = tt
