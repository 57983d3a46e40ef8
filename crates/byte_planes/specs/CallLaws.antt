-- What the calls do: refused exactly where the request says, with the output untouched; else what one wrote the other gives back. Assumes nothing.
use Rattle.std.specs.Prelude.{◌≡◌, true, false, List, ◌++◌, None, Some, ◌⊎◌, ℕ, ◌*◌, ◌/◌, ◌^◌, ◌<◌, ◌≤◌, leb, eqb, take, drop}
use Rattle.std.proofs.Common.{ap, ◌∙◌, ⊎_elim, arith, take_at}
use Rattle.std.proofs.Math.Bool.{and-false}
use borrow.Author.Tests.{le-leb, lt-leb, eq-eqb, ne_eqb}
use Rattle.std.proofs.Math.ListN.{length}
use Rattle.common.specs.Answer.{Given, Refused}
use Rattle.byte_planes.specs.Planes.{Below, planes, column}
use Rattle.byte_planes.specs.Calls.{fits_column, encoded, encoded_out, fits_planes, decoded, decoded_out}
use Rattle.byte_planes.specs.Answers.{of_stored}
use Rattle.byte_planes.specs.Laws.{length_planes, length_restored, column_planes, planes_column}

-- ---- encode
module _ (c o : List ℕ) where
  -- which answer its tests lead to
  pub long : 4096 < length c → fits_column c o ≡ false
  unfolding fits_column
  long h = rw (lt-leb (length c) 4096 h)

  pub short : length o < 8 * length c → fits_column c o ≡ false
  unfolding fits_column
  short h = rw (lt-leb (8 * length c) (length o) h, and-false (leb (length c) 4096))

  pub fits : length c ≤ 4096 → 8 * length c ≤ length o → fits_column c o ≡ true
  unfolding fits_column
  fits h k = rw (le-leb (length c) 4096 h, le-leb (8 * length c) (length o) k)

  pub encode_none : fits_column c o ≡ false → (encoded c o ≡ None) × (encoded_out c o ≡ o)
  unfolding encoded encoded_out
  encode_none e = (rw e, rw e)

  pub encode_all : fits_column c o ≡ true → (encoded c o ≡ Some (8 * length c)) × (encoded_out c o ≡ planes c ++ drop (8 * length c) o)
  unfolding encoded encoded_out
  encode_all e = (rw e, rw e)

  -- REFUSAL 28, THE OUTPUT UNTOUCHED: a column of more than 4,096 words, or an output too short
  pub encode_refused : (4096 < length c) ⊎ (length o < 8 * length c) → (of_stored (encoded c o) ≡ Refused 28 0 0) × (encoded_out c o ≡ o)
  encode_refused h = let e = encode_none (⊎_elim long short h) in (ap of_stored e.0, e.1)

  -- AND ELSE THE PLANES BEFORE THE REST
  pub encode_given : length c ≤ 4096 → 8 * length c ≤ length o
      → (of_stored (encoded c o) ≡ Given (8 * length c)) × (encoded_out c o ≡ planes c ++ drop (8 * length c) o)
  encode_given h k = let e = encode_all (fits h k) in (ap of_stored e.0, e.1)

-- ---- decode
module _ (bs o : List ℕ) where
  -- which answer its tests lead to
  pub odd : (length bs ≡ 8 * (length bs / 8) → ⊥) → fits_planes bs o ≡ false
  unfolding fits_planes
  odd h = rw (ne_eqb (length bs) (8 * (length bs / 8)) h)

  pub many : 4096 < length bs / 8 → fits_planes bs o ≡ false
  unfolding fits_planes
  many h = rw (lt-leb (length bs / 8) 4096 h, and-false (eqb (length bs) (8 * (length bs / 8))))

  pub narrow : length o < length bs / 8 → fits_planes bs o ≡ false
  unfolding fits_planes
  narrow h = rw (lt-leb (length bs / 8) (length o) h, and-false (leb (length bs / 8) 4096), and-false (eqb (length bs) (8 * (length bs / 8))))

  pub whole : length bs ≡ 8 * (length bs / 8) → length bs / 8 ≤ 4096 → length bs / 8 ≤ length o → fits_planes bs o ≡ true
  unfolding fits_planes
  whole w h k = rw (eq-eqb (length bs) (8 * (length bs / 8)) w, le-leb (length bs / 8) 4096 h, le-leb (length bs / 8) (length o) k)

  pub decode_none : fits_planes bs o ≡ false → (decoded bs o ≡ None) × (decoded_out bs o ≡ o)
  unfolding decoded decoded_out
  decode_none e = (rw e, rw e)

  pub decode_all : fits_planes bs o ≡ true → (decoded bs o ≡ Some (length bs / 8)) × (decoded_out bs o ≡ column bs ++ drop (length bs / 8) o)
  unfolding decoded decoded_out
  decode_all e = (rw e, rw e)

  -- REFUSAL 28, THE OUTPUT UNTOUCHED: bytes that are not 8 for each word, words over 4,096, or an output too short
  pub decode_refused : (length bs ≡ 8 * (length bs / 8) → ⊥) ⊎ ((4096 < length bs / 8) ⊎ (length o < length bs / 8))
      → (of_stored (decoded bs o) ≡ Refused 28 0 0) × (decoded_out bs o ≡ o)
  decode_refused h = let e = decode_none (⊎_elim odd (⊎_elim many narrow) h) in (ap of_stored e.0, e.1)

-- bytes of n words, with room for them
module _ (bs : List ℕ) (n : ℕ) (o : List ℕ) (w : length bs ≡ 8 * n) (few : n ≤ 4096) (room : n ≤ length o) where
  count : length bs / 8 ≡ n
  count = omega arith

  -- AND ELSE THE COLUMN BEFORE THE REST
  pub decode_given : (of_stored (decoded bs o) ≡ Given n) × (decoded_out bs o ≡ column bs ++ drop n o)
  decode_given =
      let e = decode_all bs o (whole bs o (omega arith) (omega arith) (omega arith)) in
      (rw count at (ap of_stored e.0), e.1 ∙ ap (λ x. column bs ++ drop x o) count)

  -- the words that it wrote
  words : take n (decoded_out bs o) ≡ column bs
  words = ap (take n) decode_given.1 ∙ take_at (column bs) (drop n o) n (length_restored bs (length bs / 8) ∙ count)

-- ---- one after the other
-- the bytes that `encode` wrote
bytes : (c o : List ℕ) → length c ≤ 4096 → 8 * length c ≤ length o → take (8 * length c) (encoded_out c o) ≡ planes c
bytes c o h k = ap (take (8 * length c)) (encode_given c o h k).1 ∙ take_at (planes c) (drop (8 * length c) o) (8 * length c) (length_planes c)

-- DECODING WHAT ENCODING A COLUMN WROTE GIVES THE COLUMN
pub decode_encode : (c o p : List ℕ) → Below (2 ^ 64) c → length c ≤ 4096 → 8 * length c ≤ length o → length c ≤ length p
    → decoded_out (take (8 * length c) (encoded_out c o)) p ≡ c ++ drop (length c) p
decode_encode c o p h few r s =
    rw (bytes c o few r) ((decode_given (planes c) (length c) p (length_planes c) few s).1 ∙ ap (λ x. x ++ drop (length c) p) (column_planes c h))

-- ENCODING WHAT DECODING BYTES WROTE GIVES THE BYTES
pub encode_decode : (bs : List ℕ) (n : ℕ) (o p : List ℕ) → Below 256 bs → length bs ≡ 8 * n → n ≤ 4096 → n ≤ length o → 8 * n ≤ length p
    → encoded_out (take n (decoded_out bs o)) p ≡ bs ++ drop (8 * n) p
encode_decode bs n o p h e few r s =
    let k : length bs / 8 ≡ n = omega arith in
    let l : length (column bs) ≡ n = length_restored bs (length bs / 8) ∙ k in
    rw (words bs n o e few r)
    ((encode_given (column bs) p (omega arith) (omega arith)).1 ∙ ap (λ x. planes (column bs) ++ drop (8 * x) p) l
    ∙ ap (λ x. x ++ drop (8 * n) p) (planes_column bs h (omega arith)))
