-- A list of samples, in the code's steps. Assumes nothing.
use Rattle.std.specs.Prelude.{Some, None, Ok, Err}
use Prim.Native.Nat.{ℕ, zero, suc, ◌+◌, ◌<◌, ◌≤◌, max}
use mathlib.Core.Path.{◌≡◌, refl, sym, ◌∙◌}
use mathlib.Core.Bool.{Bool, true, false, cond}
use mathlib.Core.List.{List, [], ◌∷◌, ◌++◌, append_assoc}
use native.Mathlib.Numerals.{add-one}
use native.Mathlib.Omega.{arith}
use lib.Dec.{ltb}
use borrow.Author.Tests.{lt-ltb, le-ltb}
use lib.ListN.{length, set, drop, get_or, length-append}
use lib.Seq.{set_at, drop-cons}
use lib.Ieee.{Float}
use Rattle.common.specs.Iter.{iter}
use Rattle.common.specs.IterLaws.{iter_none, iter_next, iter_stays}
use Rattle.samples.specs.Counts.{from_rate, count_within, sample_count}
use Rattle.samples.specs.Samples.{Sampled, sample}
use Rattle.samples.specs.SampleLaws.{in_count}
use Rattle.sample_lists.specs.declared.Listed.{Listed}
use Rattle.sample_lists.specs.Lists.{numbers, listing_with, onward, listing, sample_list, not_begun, Lists}
use Rattle.sample_lists.specs.StagesInner.{timed}
use Rattle.common.specs.Refusals.{going}
use Rattle.common.specs.declared.Refusal.{Refusal}
use Rattle.samples.specs.declared.PathSample.{PathSample}

-- k samples have their rows, and the list goes on
pub record Going (sample : ℕ → Sampled) (k : ℕ) (out out' : List (List Float)) : Type 0 where
  pub rows : List (List Float)
  pub is : listing_with going rows ≡ listing sample k
  pub count : length rows ≡ k
  pub left : out' ≡ rows ++ drop k out

pub goes_first : (sample : ℕ → Sampled) (out : List (List Float)) → Going sample 0 out out
unfolding listing
goes_first sample out = record { rows = []; is = iter_none (onward sample) (listing_with going []); count = refl; left = refl }

module _ (sample : ℕ → Sampled) {k : ℕ} {out out' : List (List Float)} {d : Sampled} (g : Going sample k out out') (e : d ≡ sample k) where
  pub goes_next : {s : PathSample} → k < length out → d ≡ Ok s → {row : List Float} → row ≡ numbers s → Going sample (k + 1) out (set out' k row)
  unfolding listing onward
  goes_next {s} h f {row} n =
      record {
        rows = g.rows ++ row ∷ [];
        is = iter_next (onward sample) (listing_with going []) k g.is (rw (← e, f, n));
        count = length-append g.rows (row ∷ []) ∙ omega (arith, g.count);
        left =
            rw (g.left, drop-cons out k [] h, add-one k) (set_at g.rows (get_or out k []) (drop (suc k) out) row k g.count ∙ sym (append_assoc g.rows (row ∷ []) (drop (suc k) out)));
      }

  pub goes_cut : {why : Refusal} {m : ℕ} → k < m → d ≡ Err why → Lists (listing sample m) out (record { fate = Err why; rows = k }) out'
  unfolding listing onward
  goes_cut {why} {m} h f =
      let stopped : listing_with (Err why) g.rows ≡ iter (onward sample) (listing_with going []) m = iter_stays (onward sample) (listing_with going []) (k + 1) m (omega arith) (iter_next (onward sample) (listing_with going []) k g.is (rw (← e, f))) (λ j. refl) in
      record { fate = rw (← stopped); count = rw (← stopped) (sym g.count); rows = rw (← stopped, g.count) g.left }

pub goes_whole : (sample : ℕ → Sampled) {k : ℕ} {out out' : List (List Float)} → Going sample k out out' → Lists (listing sample k) out (record { fate = going; rows = k }) out'
goes_whole sample g = record { fate = rw (← g.is); count = rw (← g.is) (sym g.count); rows = rw (← g.is, g.count) g.left }

-- two ways to make the same samples make the same list
same : (f g : ℕ → Sampled) (n : ℕ) → ((k : ℕ) → k < n → f k ≡ g k) → listing f n ≡ listing g n
unfolding listing onward iter
same f g zero h = refl
same f g (suc n) h = rw (same f g n (λ k b. h k (omega (arith, b))), h n (omega arith)) refl

-- a count that is given is not 0
pub some_count : (duration : Float) (requested : ℕ) (alpha : Float) {n : ℕ} → sample_count duration requested alpha ≡ Some n → 0 < n
unfolding sample_count count_within
some_count duration requested alpha {n} = by (max requested (from_rate duration alpha)) (ltb 100000 (max (max requested (from_rate duration alpha)) 17))
  where
    by : (m : ℕ) (b : Bool) → cond b None (Some (max m 17)) ≡ Some n → 0 < n
    by m true h = absurd (let z : ◌≡◌ {A = ℕ} 0 1 = cc in omega arith)
    by m false h = let z : max m 17 ≡ n = cc in omega arith

-- ---- the list by its count
module _ (j : List (List Float)) (tol duration : Float) (nodes : List (List Float)) (requested : ℕ) (alpha : Float) (out : List (List Float)) where
  pub lists_many : sample_count duration requested alpha ≡ None → Lists (sample_list j tol duration nodes requested alpha (length out)) out (not_begun 20) out
  unfolding sample_list
  lists_many e = rw e (record { fate = refl; count = refl; rows = refl })

  module _ {count : ℕ} (e : sample_count duration requested alpha ≡ Some count) where
    pub lists_short : length out < count → Lists (sample_list j tol duration nodes requested alpha (length out)) out (not_begun 99) out
    unfolding sample_list
    lists_short h = rw (e, lt-ltb (length out) count h) (record { fate = refl; count = refl; rows = refl })

    timed_list_law : listing (timed j tol duration nodes count) count ≡ listing (sample j tol duration nodes requested alpha) count
    timed_list_law = same (timed j tol duration nodes count) (sample j tol duration nodes requested alpha) count (λ k b. in_count j tol nodes duration requested alpha k e b)

    pub lists_room : {r : Listed} {out' : List (List Float)} → count ≤ length out → Lists (listing (timed j tol duration nodes count) count) out r out' → Lists (sample_list j tol duration nodes requested alpha (length out)) out r out'
    unfolding sample_list
    lists_room h l = rw (e, le-ltb (length out) count h, ← timed_list_law) l
