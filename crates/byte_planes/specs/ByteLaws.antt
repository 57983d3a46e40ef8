-- Planes by their bytes, and words by theirs. Assumes nothing.
use Rattle.std.specs.Prelude.{◌≡◌, refl, List, ◌++◌, ℕ, zero, suc, ◌+◌, ◌-◌, ◌*◌, ◌/◌, ◌^◌, ◌<◌, ◌≤◌, length, get_or}
use Rattle.std.proofs.Common.{sym, ap, ◌∙◌, suc-mul, add-zero, add-suc, suc-add, add-one, arith, below_more, pow-add, shr-shr, length-append, get_or-append-add}
use Rattle.std.proofs.Math.Nat.{div-eq_of_lt, zero-div}
use Rattle.std.proofs.lemmas.List.{length-map}
use Rattle.std.proofs.Math.ListN.{get_or-append, get_or-map}
use Rattle.common.specs.IterLaws.{row_end}
use Rattle.byte_planes.specs.Planes.{Below, byte_of, plane, first_planes, word_at, words_from}

-- ---- planes
pub plane_at : (j : ℕ) (ds : List ℕ) (i : ℕ) → get_or (plane j ds) i 0 ≡ byte_of j (get_or ds i 0)
plane_at j ds i =
    let z : byte_of j 0 ≡ 0 = rw zero-div in
    ap (get_or (plane j ds) i) (sym z) ∙ get_or-map (byte_of j) ds i 0

pub length_planes : (k : ℕ) (ds : List ℕ) → length (first_planes k ds) ≡ k * length ds
unfolding first_planes
length_planes zero ds = omega arith
length_planes (suc k) ds =
    length-append (first_planes k ds) (plane k ds) ∙ ap (λ x. x + length (plane k ds)) (length_planes k ds)
    ∙ ap (λ x. k * length ds + x) (length-map ds (byte_of k)) ∙ sym (suc-mul k (length ds))

-- byte j of word i stands in row j
pub planes_at : (k : ℕ) (ds : List ℕ) (j i : ℕ) → j < k → i < length ds → get_or (first_planes k ds) (j * length ds + i) 0 ≡ byte_of j (get_or ds i 0)
unfolding first_planes
planes_at zero ds j i h p = omega arith
planes_at (suc k) ds j i h p =
    below_more (λ x. get_or (first_planes k ds ++ plane k ds) (x * length ds + i) 0 ≡ byte_of x (get_or ds i 0)) k
    (λ x q. get_or-append (first_planes k ds) (plane k ds) 0 (x * length ds + i) (omega (arith, length_planes k ds, row_end x k (length ds) q)) ∙ planes_at k ds x i q p)
    (ap (λ x. get_or (first_planes k ds ++ plane k ds) (x + i) 0) (sym (length_planes k ds)) ∙ get_or-append-add (first_planes k ds) (plane k ds) i 0 ∙ plane_at k ds i)
    j (omega arith)

-- ---- a word of its bytes
-- the first j bytes of a word, from its own bytes
pub bytes_word : (bs : List ℕ) (n i d : ℕ) → d < 2 ^ 64 → ((j : ℕ) → j < 8 → get_or bs (j * n + i) 0 ≡ byte_of j d) → (j : ℕ) → j ≤ 8 → word_at bs n i j ≡ d / 2 ^ (64 - 8 * j)
unfolding word_at
bytes_word bs n i d p h zero q = sym (div-eq_of_lt p)
bytes_word bs n i d p h (suc j) q =
    let r : 64 - 8 * j ≡ 8 * (7 - j) + 8 = omega arith in
    let s : 64 - 8 * suc j ≡ 8 * (7 - j) = omega arith in
    omega (arith, bytes_word bs n i d p h j (omega arith), h j q, ap (λ x. d / 2 ^ x) r, shr-shr d (8 * (7 - j)) 8, ap (λ x. d / 2 ^ x) s)

-- one more byte
pub word_step : (bs : List ℕ) (n i j : ℕ) → word_at bs n i (suc j) ≡ word_at bs n i j * 256 + get_or bs (j * n + i) 0
unfolding word_at
word_step bs n i j = refl

pub word_grows : (w b j : ℕ) → w < 2 ^ (8 * j) → b < 256 → w * 256 + b < 2 ^ (8 * (j + 1))
word_grows w b j h k = let e : 8 * (j + 1) ≡ 8 * j + 8 = omega arith in omega (arith, ap (λ x. 2 ^ x) e, pow-add 2 (8 * j) 8)

-- below 2 to the number of its bits
pub word_below : (bs : List ℕ) (n i : ℕ) → Below 256 bs → (j : ℕ) → word_at bs n i j < 2 ^ (8 * j)
unfolding word_at
word_below bs n i h zero = omega arith
word_below bs n i h (suc j) = rw (add-one j) at (word_grows (word_at bs n i j) (get_or bs (j * n + i) 0) j (word_below bs n i h j) (h (j * n + i)))

-- a word without its last m bytes
word_top : (bs : List ℕ) (n i : ℕ) → Below 256 bs → (j m : ℕ) → word_at bs n i (j + m) / 2 ^ (8 * m) ≡ word_at bs n i j
unfolding word_at
word_top bs n i h j zero = rw (add-zero j) (omega arith)
word_top bs n i h j (suc m) =
    let r : 8 * suc m ≡ 8 + 8 * m = omega arith in
    let w = word_at bs n i (j + m) * 256 + get_or bs ((j + m) * n + i) 0 in
    let t : w / 256 ≡ word_at bs n i (j + m) = omega (arith, h ((j + m) * n + i)) in
    rw (add-suc j m, r) (sym (shr-shr w 8 (8 * m)) ∙ ap (λ x. x / 2 ^ (8 * m)) t ∙ word_top bs n i h j m)

-- byte j of the word is the byte in row j
pub word_byte : (bs : List ℕ) (n i : ℕ) → Below 256 bs → (j : ℕ) → j < 8 → byte_of j (word_at bs n i 8) ≡ get_or bs (j * n + i) 0
word_byte bs n i h j p =
    let a : 8 ≡ suc j + (7 - j) = omega arith in
    let e : word_at bs n i 8 / 2 ^ (8 * (7 - j)) ≡ word_at bs n i (suc j) =
    ap (λ x. word_at bs n i x / 2 ^ (8 * (7 - j))) a ∙ word_top bs n i h (suc j) (7 - j) in
    omega (arith, e, word_step bs n i j, h (j * n + i))

-- ---- all words
pub length_words : (bs : List ℕ) (n i k : ℕ) → length (words_from bs n i k) ≡ k
unfolding words_from
length_words bs n i zero = refl
length_words bs n i (suc k) = ap suc (length_words bs n (suc i) k)

pub words_at_law : (bs : List ℕ) (n i k m : ℕ) → m < k → get_or (words_from bs n i k) m 0 ≡ word_at bs n (i + m) 8
unfolding words_from
words_at_law bs n i zero m h = omega arith
words_at_law bs n i (suc k) zero h = rw (add-zero i)
words_at_law bs n i (suc k) (suc m) h = words_at_law bs n (suc i) k m (omega arith) ∙ ap (λ x. word_at bs n x 8) (suc-add i m ∙ sym (add-suc i m))

pub words_below : (bs : List ℕ) (n i k : ℕ) → Below 256 bs → Below (2 ^ 64) (words_from bs n i k)
unfolding words_from
words_below bs n i zero h m = omega arith
words_below bs n i (suc k) h zero = word_below bs n i h 8
words_below bs n i (suc k) h (suc m) = words_below bs n (suc i) k h m
