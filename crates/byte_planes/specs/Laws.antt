-- Planes and columns are each other's inverses: every column comes back, and every arrangement of 8 bytes a word comes from exactly one column. Assumes nothing.
use Rattle.std.specs.Prelude.{◌≡◌, refl, List, [], ◌∷◌, ◌++◌, length, get_or, drop}
use Rattle.std.proofs.Common.{sym, ◌∙◌, suc-mul, zero-mul, zero-add, arith, length-drop, take_all, length-take-le, get_or-take, get_or-drop, ext_get_or}
use Rattle.std.proofs.Math.Path.{ap}
use Prim.Native.Nat.{ℕ, zero, suc, ◌*◌, ◌/◌, ◌^◌, ◌<◌, ◌≤◌}
use Rattle.std.proofs.Math.ListN.{take}
use Rattle.std.proofs.lemmas.List.{length-map}
use Rattle.std.proofs.Math.Seq.{take-add}
use Rattle.common.specs.IterLaws.{row_end}
use Rattle.byte_planes.specs.Planes.{Below, deltas_from, deltas, byte_of, plane, first_planes, planes, word_at, words_from, restored_from, restored, column}
use Rattle.byte_planes.specs.DeltaLaws.{restored_deltas, deltas_restored, deltas_from_zero, length_deltas, length_restored_from, deltas_below, restored_below}
use Rattle.byte_planes.specs.ByteLaws as Bytes

-- ---- combined words and their planes
-- the words of their planes are the words
words_planes : (ds : List ℕ) → Below (2 ^ 64) ds → words_from (first_planes 8 ds) (length ds) 0 (length ds) ≡ ds
words_planes ds h =
    let bs = first_planes 8 ds in
    let n = length ds in
    ext_get_or 0 (words_from bs n 0 n) ds (Bytes.length_words bs n 0 n)
    (λ i p. let q : i < n = omega (arith, Bytes.length_words bs n 0 n) in
    Bytes.words_at_law bs n 0 n i q ∙ ap (λ x. word_at bs n x 8) (zero-add i)
    ∙ omega (arith, Bytes.bytes_word bs n i (get_or ds i 0) (h i) (λ j r. Bytes.planes_at 8 ds j i r q) 8 (omega arith)))

module _ (bs : List ℕ) (n : ℕ) (h : Below 256 bs) (e : length bs ≡ 8 * n) where
  -- plane j of the words of some bytes is their row j
  row : (j : ℕ) → j < 8 → plane j (words_from bs n 0 n) ≡ take n (drop (j * n) bs)
  row j q =
      let l : length (plane j (words_from bs n 0 n)) ≡ n = length-map (words_from bs n 0 n) (byte_of j) ∙ Bytes.length_words bs n 0 n in
      let m : length (take n (drop (j * n) bs)) ≡ n = length-take-le n (drop (j * n) bs) (omega (arith, length-drop (j * n) bs, row_end j 8 n q)) in
      ext_get_or 0 (plane j (words_from bs n 0 n)) (take n (drop (j * n) bs)) (l ∙ sym m)
      (λ i p. let r : i < n = omega arith in
      Bytes.plane_at j (words_from bs n 0 n) i
      ∙ ap (byte_of j) (Bytes.words_at_law bs n 0 n i r ∙ ap (λ x. word_at bs n x 8) (zero-add i))
      ∙ Bytes.word_byte bs n i h j q
      ∙ sym (get_or-take n (drop (j * n) bs) i 0 r ∙ get_or-drop (j * n) bs i 0))

  rows : (j : ℕ) → j ≤ 8 → first_planes j (words_from bs n 0 n) ≡ take (j * n) bs
  unfolding first_planes
  rows zero q = rw (zero-mul n)
  rows (suc j) q =
      rw (suc-mul j n, take-add (j * n) n bs)
      (ap (λ r. r ++ plane j (words_from bs n 0 n)) (rows j (omega arith)) ∙ ap (λ r. take (j * n) bs ++ r) (row j q))

  -- the planes of the words are the bytes
  planes_words : first_planes 8 (words_from bs n 0 n) ≡ bs
  planes_words = rows 8 (omega arith) ∙ take_all (8 * n) bs (omega arith)

-- ---- columns and their planes
pub length_planes : (c : List ℕ) → length (planes c) ≡ 8 * length c
unfolding planes
length_planes c = Bytes.length_planes 8 (deltas c) ∙ ap (λ x. 8 * x) (length_deltas c)

pub length_restored : (bs : List ℕ) (n : ℕ) → length (restored bs n) ≡ n
unfolding restored
length_restored bs n = length_restored_from 0 (words_from bs n 0 n) ∙ Bytes.length_words bs n 0 n

restored_planes : (c : List ℕ) → Below (2 ^ 64) c → restored (planes c) (length c) ≡ c
unfolding restored planes
restored_planes c h =
    ap (λ n. restored_from 0 (words_from (first_planes 8 (deltas c)) n 0 n)) (sym (length_deltas c))
    ∙ ap (restored_from 0) (words_planes (deltas c) (deltas_below c h) ∙ deltas_from_zero c) ∙ restored_deltas 0 c

planes_restored : (bs : List ℕ) (n : ℕ) → Below 256 bs → length bs ≡ 8 * n → planes (restored bs n) ≡ bs
unfolding restored planes
planes_restored bs n h e =
    ap (first_planes 8) (deltas_from_zero (restored_from 0 (words_from bs n 0 n)) ∙ deltas_restored 0 (words_from bs n 0 n)) ∙ planes_words bs n h e

-- THE COLUMN OF A COLUMN'S PLANES IS THE COLUMN
pub column_planes : (c : List ℕ) → Below (2 ^ 64) c → column (planes c) ≡ c
column_planes c h =
    let e : length (planes c) / 8 ≡ length c = omega (arith, length_planes c) in
    ap (restored (planes c)) e ∙ restored_planes c h

-- THE PLANES OF A COLUMN OF PLANES ARE THE PLANES
pub planes_column : (bs : List ℕ) → Below 256 bs → length bs ≡ 8 * (length bs / 8) → planes (column bs) ≡ bs
planes_column bs h e = planes_restored bs (length bs / 8) h e

-- c is a column of n words whose planes are bs
pub record Gives (bs : List ℕ) (n : ℕ) (c : List ℕ) : Type 0 where
  pub count : length c ≡ n
  pub words : Below (2 ^ 64) c
  pub same : planes c ≡ bs

-- EACH ARRANGEMENT OF 8 n BYTES COMES FROM EXACTLY ONE COLUMN OF n WORDS
pub one_column : (bs : List ℕ) (n : ℕ) → Below 256 bs → length bs ≡ 8 * n → (c : List ℕ) × Gives bs n c × ((d : List ℕ) → Gives bs n d → d ≡ c)
unfolding restored
one_column bs n h e = (
  restored bs n,
  record {
    count = length_restored bs n;
    words = restored_below 0 (words_from bs n 0 n) (omega arith) (Bytes.words_below bs n 0 n h);
    same = planes_restored bs n h e;
  },
  λ d g. sym (restored_planes d g.words) ∙ ap (restored (planes d)) g.count ∙ ap (λ x. restored x n) g.same,
)

-- an empty column gives no bytes
pub planes_empty : planes [] ≡ []
unfolding planes deltas first_planes
planes_empty = refl

-- four words, among them a quiet NaN and a signalling one, and their planes
example : planes (0x3ff0_0000_0000_0000 ∷ 0x3ff8_0000_0000_0001 ∷ 0x7ff8_0000_0000_0001 ∷ 0xfff0_0000_0000_00ff ∷ [])
    ≡ 0x3f ∷ 0x00 ∷ 0x40 ∷ 0x80 ∷ 0xf0 ∷ 0x08 ∷ 0x00 ∷ 0x08
    ∷ 0 ∷ 0 ∷ 0 ∷ 0 ∷ 0 ∷ 0 ∷ 0 ∷ 0 ∷ 0 ∷ 0 ∷ 0 ∷ 0 ∷ 0 ∷ 0 ∷ 0 ∷ 0 ∷ 0 ∷ 0 ∷ 0 ∷ 0 ∷ 0x00 ∷ 0x01 ∷ 0x00 ∷ 0xfe ∷ []
unfolding planes deltas deltas_from first_planes
example = refl
