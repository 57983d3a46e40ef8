-- What a turn of each loop does to the list that it writes. Assumes nothing.
use mathlib.Core.Path.{◌≡◌, sym, ap, ◌∙◌}
use mathlib.Core.List.{List, ◌∷◌, ◌++◌}
use Prim.Native.Nat.{ℕ, ◌+◌, ◌*◌, ◌^◌, ◌<◌, ◌≤◌}
use native.Mathlib.Nat.{zero-add, suc-mul}
use native.Mathlib.Numerals.{add-one}
use native.Mathlib.Omega.{arith}
use lib.Bits.{bit_xor}
use lib.Pow.{pow_mono}
use lib.ListN.{length, get_or, set, take, drop, length-map}
use lib.Seq.{paste, paste-suc, take_at, drop-append-add, drop-drop, take_all}
use Rattle.byte_planes.specs.Planes.{deltas, byte_of, plane, first_planes, word_at, words_from, restored_from, restored}
use Rattle.byte_planes.specs.DeltaLaws.{length_deltas, deltas_at, restored_at}
use Rattle.byte_planes.specs.ByteLaws as Bytes

pub length_plane : (j : ℕ) (c : List ℕ) → length (plane j (deltas c)) ≡ length c
length_plane j c = length-map (deltas c) (byte_of j) ∙ length_deltas c

-- one more element of a list is pasted
pub pasted : (s d out : List ℕ) (at i v : ℕ) → i < length s → at + i < length d
    → out ≡ paste d at s i → v ≡ get_or s i 0 → set out (at + i) v ≡ paste d at s (i + 1)
pasted s d out at i v h k e f = rw (e, f, add-one i) (paste-suc d at s i 0 k h)

-- byte j of combined word i
pub byte_at : (j : ℕ) (c : List ℕ) (i : ℕ) → i < length c → byte_of j (bit_xor (get_or c i 0) (get_or (0 ∷ c) i 0)) ≡ get_or (plane j (deltas c)) i 0
byte_at j c i h = sym (Bytes.plane_at j (deltas c) i ∙ ap (byte_of j) (deltas_at c i h))

-- ---- a word of its bytes
-- with fewer than 8 bytes there is room for one more
pub room : (w j : ℕ) → j < 8 → w < 2 ^ (8 * j) → w < 2 ^ 56
room w j h k = let b : 8 * j ≤ 56 = omega arith in omega (arith, pow_mono b)

pub word_next : (bs : List ℕ) (n i j : ℕ) {w : ℕ} → w ≡ word_at bs n i j → w * 256 + get_or bs (j * n + i) 0 ≡ word_at bs n i (j + 1)
word_next bs n i j e = rw (add-one j, e) (sym (Bytes.word_step bs n i j))

-- ---- the planes, one after the other
pub plane_next : (c o out made : List ℕ) (j : ℕ) → out ≡ first_planes j (deltas c) ++ drop (j * length c) o
    → made ≡ paste out (j * length c) (plane j (deltas c)) (length c) → made ≡ first_planes (j + 1) (deltas c) ++ drop ((j + 1) * length c) o
unfolding first_planes
plane_next c o out made j e f =
    let n = length c in
    let s = first_planes j (deltas c) in
    let p = plane j (deltas c) in
    let k : length s ≡ j * n = Bytes.length_planes j (deltas c) ∙ ap (λ x. j * x) (length_deltas c) in
    rw (f, e, add-one j, suc-mul j n)
    (ap (λ x. x ++ take n p ++ drop (j * n + n) (s ++ drop (j * n) o)) (take_at s (drop (j * n) o) (j * n) k)
    ∙ ap (λ x. s ++ x ++ drop (j * n + n) (s ++ drop (j * n) o)) (take_all n p (omega (arith, length_plane j c)))
    ∙ ap (λ x. s ++ p ++ drop (x + n) (s ++ drop (j * n) o)) (sym k)
    ∙ ap (λ x. s ++ p ++ x) (drop-append-add s (drop (j * n) o) n ∙ drop-drop n (j * n) o))

-- ---- the column
-- word i is combined word i with the word before it
pub column_at : (bs : List ℕ) (n i : ℕ) → i < n → bit_xor (word_at bs n i 8) (get_or (0 ∷ restored bs n) i 0) ≡ get_or (restored bs n) i 0
unfolding restored
column_at bs n i h =
    let ds = words_from bs n 0 n in
    sym (restored_at 0 ds i (omega (arith, Bytes.length_words bs n 0 n))
    ∙ ap (λ x. bit_xor x (get_or (0 ∷ restored_from 0 ds) i 0)) (Bytes.words_at_law bs n 0 n i h ∙ ap (λ x. word_at bs n x 8) (zero-add i)))

-- one more element of a list at the front
pub front_next : (s d out : List ℕ) (i v : ℕ) → i < length s → i < length d → out ≡ take i s ++ drop i d → v ≡ get_or s i 0 → set out i v ≡ take (i + 1) s ++ drop (i + 1) d
front_next s d out i v h k e f =
    rw (e, f, add-one i) (simp zero-add at (paste-suc d 0 s i 0 (omega arith) h))
