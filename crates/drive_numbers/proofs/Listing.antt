-- A list for the drive board, in the code's steps. Assumes nothing.
use Rattle.std.specs.Prelude.{Some, None, Ok, Err}
use Prim.Native.Nat.{ℕ, suc, ◌+◌, ◌<◌, ◌≤◌}
use mathlib.Core.Path.{◌≡◌, refl, sym, ◌∙◌}
use mathlib.Core.List.{List, [], ◌∷◌, ◌++◌, append_assoc}
use native.Mathlib.Numerals.{add-one}
use native.Mathlib.Omega.{arith}
use borrow.Author.Tests.{lt-ltb, le-ltb}
use lib.IntN.{ℤ}
use lib.ListN.{length, set, drop, get_or, length-append}
use lib.Seq.{set_at, drop-cons}
use lib.Ieee.{Float}
use Rattle.common.specs.Iter.{iter}
use Rattle.common.specs.IterLaws.{iter_none, iter_next, iter_stays}
use Rattle.samples.specs.Counts.{sample_count}
use Rattle.drive_numbers.specs.declared.lists.Listed.{Listed}
use Rattle.common.specs.declared.Refusal.{Refusal}
use Rattle.drive_numbers.specs.Drive.{Driven, drive_sample}
use Rattle.drive_numbers.specs.Lists.{listing_with, onward, listing, drive_list, not_begun, Lists}
use Rattle.common.specs.Refusals.{going}

-- k samples have their rows, and the list goes on
pub record Going (sample : ℕ → Driven) (k : ℕ) (out out' : List (List ℤ)) : Type 0 where
  pub rows : List (List ℤ)
  pub is : listing_with going rows ≡ listing sample k
  pub count : length rows ≡ k
  pub left : out' ≡ rows ++ drop k out

pub goes_first : (sample : ℕ → Driven) (out : List (List ℤ)) → Going sample 0 out out
unfolding listing
goes_first sample out = record { rows = []; is = iter_none (onward sample) (listing_with going []); count = refl; left = refl }

module _ (sample : ℕ → Driven) {k : ℕ} {out out' : List (List ℤ)} {d : Driven} (g : Going sample k out out') (e : d ≡ sample k) where
  pub goes_next : {row : List ℤ} → k < length out → d ≡ Ok row → Going sample (k + 1) out (set out' k row)
  unfolding listing onward
  goes_next {row} h f =
      record {
        rows = g.rows ++ row ∷ [];
        is = iter_next (onward sample) (listing_with going []) k g.is (rw (← e, f));
        count = length-append g.rows (row ∷ []) ∙ omega (arith, g.count);
        left =
            rw (g.left, drop-cons out k [] h, add-one k) (set_at g.rows (get_or out k []) (drop (suc k) out) row k g.count ∙ sym (append_assoc g.rows (row ∷ []) (drop (suc k) out)));
      }

  pub goes_cut : {why : Refusal} {m : ℕ} → k < m → d ≡ Err why → Lists (listing sample m) out (record { fate = Err why; rows = k }) out'
  unfolding listing onward
  goes_cut {why} {m} h f =
      let stopped : listing_with (Err why) g.rows ≡ iter (onward sample) (listing_with going []) m = iter_stays (onward sample) (listing_with going []) (k + 1) m (omega arith) (iter_next (onward sample) (listing_with going []) k g.is (rw (← e, f))) (λ j. refl) in
      record { fate = rw (← stopped); count = rw (← stopped) (sym g.count); rows = rw (← stopped, g.count) g.left }

pub goes_whole : (sample : ℕ → Driven) {k : ℕ} {out out' : List (List ℤ)} → Going sample k out out' → Lists (listing sample k) out (record { fate = going; rows = k }) out'
goes_whole sample g = record { fate = rw (← g.is); count = rw (← g.is) (sym g.count); rows = rw (← g.is, g.count) g.left }

-- ---- the list by its count
module _ (j : List (List Float)) (tol duration : Float) (nodes : List (List Float)) (requested : ℕ) (alpha : Float) (out : List (List ℤ)) where
  pub lists_many : sample_count duration requested alpha ≡ None → Lists (drive_list j tol duration nodes requested alpha (length out)) out (not_begun 20) out
  unfolding drive_list
  lists_many e = rw e (record { fate = refl; count = refl; rows = refl })

  module _ {count : ℕ} (e : sample_count duration requested alpha ≡ Some count) where
    pub lists_short : length out < count → Lists (drive_list j tol duration nodes requested alpha (length out)) out (not_begun 99) out
    unfolding drive_list
    lists_short h = rw (e, lt-ltb (length out) count h) (record { fate = refl; count = refl; rows = refl })

    pub lists_room : {r : Listed} {out' : List (List ℤ)} → count ≤ length out → Lists (listing (drive_sample j tol duration nodes requested alpha) count) out r out' → Lists (drive_list j tol duration nodes requested alpha (length out)) out r out'
    unfolding drive_list
    lists_room h l = rw (e, le-ltb (length out) count h) l
