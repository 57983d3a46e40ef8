-- Exclusive or undone, and the combined words of a column undone. Assumes nothing.
use Rattle.std.specs.Prelude.{◌≡◌, refl, List, [], ◌∷◌, ℕ, zero, suc, ◌+◌, ◌*◌, ◌/◌, ◌%◌, ◌^◌, ◌<◌, length, get_or}
use Rattle.std.proofs.Common.{sym, ap, ◌∙◌, div-add-mod', arith}
use Rattle.std.proofs.Math.Arith.{bin_ind}
use Rattle.std.specs.Int.Bits.{bit_xor, differ, xor_step, xor_zero_l, xor_zero_r, xor_self}
use Rattle.std.proofs.lemmas.Nat.{xor_shr, xor_mod, xor_lt}
use Rattle.byte_planes.specs.Planes.{Below, deltas_from, deltas, restored_from}

-- ---- exclusive or with the same number twice
bit_back : (x y : ℕ) → x < 2 → y < 2 → differ (bit_xor x y) y ≡ x
bit_back zero zero p q = refl
bit_back zero (suc zero) p q = refl
bit_back (suc zero) zero p q = refl
bit_back (suc zero) (suc zero) p q = refl
bit_back zero (suc (suc y)) p q = omega arith
bit_back (suc zero) (suc (suc y)) p q = omega arith
bit_back (suc (suc x)) y p q = omega arith

pub xor_back : (a b : ℕ) → bit_xor (bit_xor a b) b ≡ a
xor_back =
    bin_ind (λ n. (b : ℕ) → bit_xor (bit_xor n b) b ≡ n)
    (λ b. ap (λ x. bit_xor x b) (xor_zero_l b) ∙ xor_self b)
    (λ n ih b. xor_step (bit_xor n b) b
    ∙ ap (λ x. bit_xor x (b / 2) * 2 + differ (bit_xor n b % 2) (b % 2)) (xor_shr n b 1)
    ∙ ap (λ x. x * 2 + differ (bit_xor n b % 2) (b % 2)) (ih (b / 2))
    ∙ ap (λ x. n / 2 * 2 + differ x (b % 2)) (xor_mod n b 1)
    ∙ ap (λ x. n / 2 * 2 + x) (bit_back (n % 2) (b % 2) (omega arith) (omega arith))
    ∙ div-add-mod' n 2)

-- ---- combined and restored
pub restored_deltas : (p : ℕ) (c : List ℕ) → restored_from p (deltas_from p c) ≡ c
unfolding deltas_from restored_from
restored_deltas p [] = refl
restored_deltas p (w ∷ c) = rw (xor_back w p, restored_deltas w c)

pub deltas_restored : (p : ℕ) (ds : List ℕ) → deltas_from p (restored_from p ds) ≡ ds
unfolding deltas_from restored_from
deltas_restored p [] = refl
deltas_restored p (d ∷ ds) = rw (xor_back d p, deltas_restored (bit_xor d p) ds)

-- the first one is kept: its predecessor is 0
pub deltas_from_zero : (c : List ℕ) → deltas c ≡ deltas_from 0 c
unfolding deltas deltas_from
deltas_from_zero [] = refl
deltas_from_zero (w ∷ c) = ap (λ x. x ∷ deltas_from w c) (sym (xor_zero_r w))

length_from : (p : ℕ) (c : List ℕ) → length (deltas_from p c) ≡ length c
unfolding deltas_from
length_from p [] = refl
length_from p (w ∷ c) = ap suc (length_from w c)

pub length_deltas : (c : List ℕ) → length (deltas c) ≡ length c
length_deltas c = ap length (deltas_from_zero c) ∙ length_from 0 c

pub length_restored_from : (p : ℕ) (ds : List ℕ) → length (restored_from p ds) ≡ length ds
unfolding restored_from
length_restored_from p [] = refl
length_restored_from p (d ∷ ds) = ap suc (length_restored_from (bit_xor d p) ds)

-- ---- by their elements
from_at : (p : ℕ) (c : List ℕ) (i : ℕ) → i < length c → get_or (deltas_from p c) i 0 ≡ bit_xor (get_or c i 0) (get_or (p ∷ c) i 0)
unfolding deltas_from
from_at p [] i h = omega arith
from_at p (w ∷ c) zero h = refl
from_at p (w ∷ c) (suc i) h = from_at w c i (omega arith)

-- combined word i is word i with the word before it
pub deltas_at : (c : List ℕ) (i : ℕ) → i < length c → get_or (deltas c) i 0 ≡ bit_xor (get_or c i 0) (get_or (0 ∷ c) i 0)
deltas_at c i h = ap (λ l. get_or l i 0) (deltas_from_zero c) ∙ from_at 0 c i h

pub restored_at : (p : ℕ) (ds : List ℕ) (i : ℕ) → i < length ds → get_or (restored_from p ds) i 0 ≡ bit_xor (get_or ds i 0) (get_or (p ∷ restored_from p ds) i 0)
unfolding restored_from
restored_at p [] i h = omega arith
restored_at p (d ∷ ds) zero h = refl
restored_at p (d ∷ ds) (suc i) h = restored_at (bit_xor d p) ds i (omega arith)

-- ---- words stay words
from_below : (p : ℕ) (c : List ℕ) → p < 2 ^ 64 → Below (2 ^ 64) c → Below (2 ^ 64) (deltas_from p c)
unfolding deltas_from
from_below p [] q h i = h i
from_below p (w ∷ c) q h zero = xor_lt 64 w p (h 0) q
from_below p (w ∷ c) q h (suc i) = from_below w c (h 0) (λ k. h (suc k)) i

pub deltas_below : (c : List ℕ) → Below (2 ^ 64) c → Below (2 ^ 64) (deltas c)
deltas_below c h = rw (deltas_from_zero c) (from_below 0 c (omega arith) h)

pub restored_below : (p : ℕ) (ds : List ℕ) → p < 2 ^ 64 → Below (2 ^ 64) ds → Below (2 ^ 64) (restored_from p ds)
unfolding restored_from
restored_below p [] q h i = h i
restored_below p (d ∷ ds) q h zero = xor_lt 64 d p (h 0) q
restored_below p (d ∷ ds) q h (suc i) = restored_below (bit_xor d p) ds (xor_lt 64 d p (h 0) q) (λ k. h (suc k)) i
