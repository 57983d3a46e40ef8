-- What a list for the drive board says of the samples. Assumes nothing.
use Prim.Native.Nat.{ℕ, zero, suc, ◌<◌, ◌≤◌}
use Rattle.std.specs.Prelude.{◌≡◌, ◌⊎◌, List, [], ◌∷◌, ◌++◌, ℤ, length, get_or, Ok, Err}
use Rattle.std.proofs.Math.Path.{refl}
use Rattle.std.proofs.Common.{◌∙◌, inl, inr, eq-or-lt_of_le, length-append}
use native.Mathlib.Omega.{arith}
use Rattle.std.proofs.Math.ListN.{get_or-append}
use Rattle.std.proofs.Math.Seq.{get_or-append_seam}
use Rattle.common.specs.Iter.{iter}
use Rattle.drive_numbers.specs.Drive.{Driven}
use Rattle.drive_numbers.specs.Lists.{Listing, listing_with, onward_by, onward, listing}
use Rattle.common.specs.Refusals.{going}
use Rattle.common.specs.declared.Refusal.{Refusal}

-- row k is sample number k's
abbrev pub RowsOf : (ℕ → Driven) → List (List ℤ) → Type 0
RowsOf sample rows = (k : ℕ) → k < length rows → sample k ≡ Ok (get_or rows k [])

-- the first n samples: all of them have rows, or the list ended before sample number length rows, with that sample's refusal
pub data Upto (sample : ℕ → Driven) (n : ℕ) : Listing → Type 0 where
  whole : {rows : List (List ℤ)} → length rows ≡ n → RowsOf sample rows → Upto sample n (listing_with going rows)
  cut : {rows : List (List ℤ)} {why : Refusal} → length rows < n → sample (length rows) ≡ Err why → RowsOf sample rows → Upto sample n (listing_with (Err why) rows)

one_more : (rows : List (List ℤ)) (row : List ℤ) → length (rows ++ row ∷ []) ≡ suc (length rows)
one_more rows row = length-append rows (row ∷ []) ∙ omega arith

rows_next : (sample : ℕ → Driven) (rows : List (List ℤ)) (row : List ℤ) → sample (length rows) ≡ Ok row → RowsOf sample rows → RowsOf sample (rows ++ row ∷ [])
rows_next sample rows row g r k h = let e = one_more rows row in let l : k ≤ length rows = omega arith in by (eq-or-lt_of_le l)
  where
    by : (k ≡ length rows) ⊎ (k < length rows) → sample k ≡ Ok (get_or (rows ++ row ∷ []) k [])
    by (inl e) = rw (e, get_or-append_seam rows row [] []) g
    by (inr l) = rw (get_or-append rows (row ∷ []) [] k l) (r k l)

module _ (sample : ℕ → Driven) where
  next_by_law : (n : ℕ) (l : Listing) → Upto sample n l → (d : Driven) → sample n ≡ d → Upto sample (suc n) (onward_by l.fate l.rows d)
  next_by_law n l (whole {rows} e r) (Ok row) g = rw (← e) (whole (one_more rows row) (rows_next sample rows row (rw e g) r))
  next_by_law n l (whole {rows} e r) (Err why) g = cut {rows = rows} {why = why} (omega arith) (rw e g) r
  next_by_law n l (cut {rows} h g r) d q = cut {rows = rows} (omega arith) g r

  pub upto : (n : ℕ) → Upto sample n (listing sample n)
  unfolding listing iter onward
  upto zero = whole refl (λ k h. absurd (none h))
    where
      none : {k : ℕ} → k < 0 → ⊥
      none h = omega arith
  upto (suc n) = next_by_law n (listing sample n) (upto n) (sample n) refl
