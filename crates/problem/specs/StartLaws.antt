-- What a passed check 22 says: the record has the declared wheels, and each start is finite and in its limit; and where the starts stand. Assumes nothing.
use Prim.Native.Nat.{ℕ, zero, suc, ◌+◌, ◌<◌, ◌≤◌}
use Rattle.std.specs.Prelude.{◌≡◌, Bool, ◌&&◌, List, T, ltb, length, Float, Err}
use Rattle.std.proofs.Math.Path.{refl}
use Rattle.std.proofs.Common.{sym, ◌∙◌, add-one}
use Rattle.std.proofs.Math.Bool.{true, false, cond}
use native.Mathlib.Omega.{arith}
use borrow.Author.Tests.{lt-ltb, le-ltb, ltb-true, ltb-false, eq-eqb, eqb-true}
use Rattle.std.proofs.Math.Dec.{eqb}
use Rattle.std.specs.Float.{binary64}
use Rattle.std.specs.Float.Ieee.{of_bits}
use Rattle.common.specs.Iter.{iter}
use Rattle.common.specs.IterLaws.{iter_next, iter_stays}
use Rattle.common.specs.Lists.{at}
use Rattle.problem.specs.declared.Momenta.{Momenta}
use Rattle.problem.specs.Starts.{start_fits_value, wheel_starts, leading_turn, leading_starts, checked_by, check_starts, place_start, placed}
use Rattle.common.specs.Refusals.{refusal, going}

both : (a b : Bool) → a && b ≡ true → (a ≡ true) × (b ≡ true)
both true b e = (refl, e)
both false b e = let z : true ≡ false = cc in (cc, cc)

module _ (n : ℕ) (limits : List Float) (m : Momenta) where
  -- ---- the loop over the wheels: k of them fit so far
  module _ (k : ℕ) (h : k ≡ iter (leading_turn n limits m) 0 k) where
    pub leading_next : wheel_starts n limits m k ≡ true → k + 1 ≡ iter (leading_turn n limits m) 0 (k + 1)
    leading_next e = iter_next (leading_turn n limits m) 0 k h (rw (eq-eqb k k refl, e) refl)

    -- wheel k does not fit: no later turn goes on
    pub leading_stays : k ≤ 8 → wheel_starts n limits m k ≡ false → k ≡ leading_starts n limits m
    unfolding leading_starts
    leading_stays l e = iter_stays (leading_turn n limits m) 0 k 8 l h (λ j. by j (eqb k j) refl)
      where
        by : (j : ℕ) (b : Bool) → eqb k j ≡ b → cond (b && wheel_starts n limits m j) (j + 1) k ≡ k
        by j false c = refl
        by j true c = let i : k ≡ j = eqb-true k j c in rw (← i, e) refl

    -- all eight fit
    pub leading_whole : k ≡ 8 → k ≡ leading_starts n limits m
    unfolding leading_starts
    leading_whole e = rw (← e) h

  -- ---- what is known of the first r wheels
  record Leading (k r : ℕ) : Type 0 where
    most : r ≤ k
    fit : (i : ℕ) → i < r → wheel_starts n limits m i ≡ true

  leading_turn_law : (k r : ℕ) → Leading k r → Leading (suc k) (leading_turn n limits m k r)
  leading_turn_law k r L = by (eqb r k) (wheel_starts n limits m k) refl refl
    where
      by : (a b : Bool) → eqb r k ≡ a → wheel_starts n limits m k ≡ b → Leading (suc k) (cond (a && b) (k + 1) r)
      by false b e f = record { most = omega (arith, L.most); fit = L.fit }
      by true false e f = record { most = omega (arith, L.most); fit = L.fit }
      by true true e f = record { most = omega arith; fit = λ i h. within i h (ltb i r) refl }
        where
          same : r ≡ k
          same = eqb-true r k e

          within : (i : ℕ) → i < k + 1 → (b : Bool) → ltb i r ≡ b → wheel_starts n limits m i ≡ true
          within i h true t = L.fit i (ltb-true i r t)
          within i h false t = let l : r ≤ i = ltb-false i r t in let i-is : k ≡ i = omega (arith, same) in rw (← i-is) f

  leads : (k : ℕ) → Leading k (iter (leading_turn n limits m) 0 k)
  unfolding iter
  leads zero = record { most = omega arith; fit = λ i h. absurd (none h) }
    where
      none : {i : ℕ} → i < 0 → ⊥
      none h = omega arith
  leads (suc k) = leading_turn_law k (iter (leading_turn n limits m) 0 k) (leads k)

  -- PASSED: one start a wheel, and each fits
  pub record Passed : Type 0 where
    pub count : m.count ≡ n
    pub fit : (i : ℕ) → i < n → start_fits_value (at limits i) (at m.at i) ≡ true

  pub starts_passed : check_starts n limits m ≡ going → Passed
  unfolding check_starts leading_starts wheel_starts
  starts_passed g = by (eqb r n) (eqb r m.count) refl refl g
    where
      r : ℕ
      r = iter (leading_turn n limits m) 0 8

      by : (a b : Bool) → eqb r n ≡ a → eqb r m.count ≡ b → cond (a && b) going (Err (refusal 22 r)) ≡ going → Passed
      by false b e f g = let z : ◌≡◌ {A = ℕ} 0 1 = cc in absurd (omega arith)
      by true false e f g = let z : ◌≡◌ {A = ℕ} 0 1 = cc in absurd (omega arith)
      by true true e f g =
          let en : r ≡ n = eqb-true r n e in
          let em : r ≡ m.count = eqb-true r m.count f in
          record {
            count = sym em ∙ en;
            fit = λ i h. (both (ltb i m.count) (start_fits_value (at limits i) (at m.at i)) (both (ltb i n) (ltb i m.count && start_fits_value (at limits i) (at m.at i)) ((leads 8).fit i (rw en h))).1).1;
          }

-- ---- the starts in their places
module _ (n : ℕ) (v : List Float) where
  at_place : (i : ℕ) → i < 8 → at (placed n v) i ≡ place_start n i (at v i)
  unfolding placed
  at_place zero h = refl
  at_place (suc zero) h = refl
  at_place (suc (suc zero)) h = refl
  at_place (suc (suc (suc zero))) h = refl
  at_place (suc (suc (suc (suc zero)))) h = refl
  at_place (suc (suc (suc (suc (suc zero))))) h = refl
  at_place (suc (suc (suc (suc (suc (suc zero)))))) h = refl
  at_place (suc (suc (suc (suc (suc (suc (suc zero))))))) h = refl
  at_place (suc (suc (suc (suc (suc (suc (suc (suc i)))))))) h = absurd (omega arith)

  -- a wheel's start is the user's, bit for bit
  pub placed_at : (i : ℕ) → i < 8 → i < n → at (placed n v) i ≡ at v i
  placed_at i h l = at_place i h ∙ rw (lt-ltb i n l) refl

  -- past the wheels stands +0
  pub placed_past : (i : ℕ) → i < 8 → n ≤ i → at (placed n v) i ≡ of_bits binary64 0
  placed_past i h l = at_place i h ∙ rw (le-ltb i n l) refl

  pub placed_long : length (placed n v) ≡ 8
  unfolding placed
  placed_long = refl
