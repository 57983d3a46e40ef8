-- Momenta with the same bits, the wheel that 26 names, and what is on record after a start. Assumes nothing.
use Prim.Native.Nat.{ℕ, zero, suc, ◌+◌, ◌<◌, ◌≤◌}
use Rattle.std.proofs.Math.Path.{◌≡◌, refl, sym}
use Rattle.std.proofs.Common.{◌∙◌, Ok, Err}
use Rattle.std.specs.Prelude.{Bool, ◌&&◌, ltb}
use Rattle.std.proofs.Math.Bool.{true, false, cond}
use native.Mathlib.Omega.{arith}
use borrow.Author.Tests.{lt-ltb, le-ltb, ltb-true, ltb-false, eq-eqb, eqb-true, eqb-false}
use Rattle.std.proofs.Math.Dec.{eqb}
use Rattle.common.specs.Iter.{iter}
use Rattle.common.specs.IterLaws.{iter_next, iter_stays}
use Rattle.common.specs.Lists.{at}
use Rattle.problem.specs.declared.Momenta.{Momenta}
use Rattle.float_bits.specs.Bits.{same_bits}
use Rattle.float_bits.specs.BitLaws.{both, same_is, same_self}
use Rattle.wheel_record.specs.Commits.{same_wheel, leading_turn, leading_same, same, not_started, started, commit}
use Rattle.common.specs.Refusals.{Fate, going}

module _ (m n : Momenta) where
  -- ---- the loop over the wheels: k of them are the same so far
  module _ (k : ℕ) (h : k ≡ iter (leading_turn m n) 0 k) where
    pub leading_next : same_wheel m n k ≡ true → k + 1 ≡ iter (leading_turn m n) 0 (k + 1)
    leading_next e = iter_next (leading_turn m n) 0 k h (rw (eq-eqb k k refl, e) refl)

    -- wheel k differs: no later turn goes on
    pub leading_stays : k ≤ 8 → same_wheel m n k ≡ false → k ≡ leading_same m n
    unfolding leading_same
    leading_stays l e = iter_stays (leading_turn m n) 0 k 8 l h (λ j. by j (eqb k j) refl)
      where
        by : (j : ℕ) (b : Bool) → eqb k j ≡ b → cond (b && same_wheel m n j) (j + 1) k ≡ k
        by j false c = refl
        by j true c = let i : k ≡ j = eqb-true k j c in rw (← i, e) refl

    -- all eight are the same
    pub leading_whole : k ≡ 8 → k ≡ leading_same m n
    unfolding leading_same
    leading_whole e = rw (← e) h

  -- ---- what is known after k turns: the first r wheels are the same, and wheel r was looked at only if it is not
  record Leading (k r : ℕ) : Type 0 where
    most : r ≤ k
    alike : (i : ℕ) → i < r → same_wheel m n i ≡ true
    stop : r < k → same_wheel m n r ≡ false

  leading_turn_law : (k r : ℕ) → Leading k r → Leading (suc k) (leading_turn m n k r)
  leading_turn_law k r L = by (eqb r k) (same_wheel m n k) refl refl
    where
      by : (a b : Bool) → eqb r k ≡ a → same_wheel m n k ≡ b → Leading (suc k) (cond (a && b) (k + 1) r)
      by false b e f = record { most = omega (arith, L.most); alike = L.alike; stop = λ h. L.stop (below (eqb-false r k e) h L.most) }
        where
          below : (r ≡ k → ⊥) → r < suc k → r ≤ k → r < k
          below u v w = omega arith
      by true false e f = let s : r ≡ k = eqb-true r k e in record { most = omega (arith, L.most); alike = L.alike; stop = λ h. rw s f }
      by true true e f = record { most = omega arith; alike = λ i h. within i h (ltb i r) refl; stop = λ h. absurd (never h) }
        where
          same_place : r ≡ k
          same_place = eqb-true r k e

          never : k + 1 < suc k → ⊥
          never h = omega arith

          within : (i : ℕ) → i < k + 1 → (b : Bool) → ltb i r ≡ b → same_wheel m n i ≡ true
          within i h true t = L.alike i (ltb-true i r t)
          within i h false t = let l : r ≤ i = ltb-false i r t in let i-is : k ≡ i = omega (arith, same_place) in rw (← i-is) f

  leads : (k : ℕ) → Leading k (iter (leading_turn m n) 0 k)
  unfolding iter
  leads zero = record { most = omega arith; alike = λ i h. absurd (none h); stop = λ h. absurd (none h) }
    where
      none : {i : ℕ} → i < 0 → ⊥
      none h = omega arith
  leads (suc k) = leading_turn_law k (iter (leading_turn m n) 0 k) (leads k)

  -- THE PLACE of 26: every wheel before it is the same in both, and it is not, if it is one of the eight
  pub place_least : (i : ℕ) → i < leading_same m n → same_wheel m n i ≡ true
  unfolding leading_same
  place_least = (leads 8).alike

  pub place_differs : leading_same m n < 8 → same_wheel m n (leading_same m n) ≡ false
  unfolding leading_same
  place_differs = (leads 8).stop

  -- THE SAME: as many wheels, at most eight, and each with the same float
  pub record Alike : Type 0 where
    pub count : m.count ≡ n.count
    pub most : m.count ≤ 8
    pub each : (i : ℕ) → i < m.count → at m.at i ≡ at n.at i

  pub same_alike : same m n ≡ true → Alike
  unfolding leading_same same_wheel
  same_alike e =
      let r = iter (leading_turn m n) 0 8 in
      let t = both (eqb r m.count) (eqb r n.count) e in
      let em : r ≡ m.count = eqb-true r m.count t.0 in
      let en : r ≡ n.count = eqb-true r n.count t.1 in
      record {
        count = sym em ∙ en;
        most = omega (arith, em, (leads 8).most);
        each = λ i h. same_is (at m.at i) (at n.at i) (both (ltb i n.count) (same_bits (at m.at i) (at n.at i)) (both (ltb i m.count) (ltb i n.count && same_bits (at m.at i) (at n.at i)) ((leads 8).alike i (rw em h))).1).1;
      }

  -- and such momenta are the same
  pub alike_same : Alike → same m n ≡ true
  unfolding leading_same same_wheel
  alike_same A = go (leading_same m n) refl (leads_most (leading_same m n) refl)
    where
      leads_most : (r : ℕ) → leading_same m n ≡ r → r ≤ 8
      leads_most r e = omega (arith, e, (leads 8).most)

      wheel : (i : ℕ) → i < m.count → same_wheel m n i ≡ true
      wheel i h = let j : i < n.count = omega (arith, A.count) in rw (lt-ltb i m.count h, lt-ltb i n.count j, A.each i h) (same_self (at n.at i))

      past : (i : ℕ) → m.count ≤ i → same_wheel m n i ≡ false
      past i h = rw (le-ltb i m.count h) refl

      clash : {b : Bool} → b ≡ true → b ≡ false → ⊥
      clash p q = let z : true ≡ false = sym p ∙ q in let y : ◌≡◌ {A = ℕ} 0 1 = cc in omega arith

      is_count : (r : ℕ) → leading_same m n ≡ r → r ≤ 8 → (a b : Bool) → ltb r m.count ≡ a → ltb m.count r ≡ b → r ≡ m.count
      is_count r e l true b p q = absurd (clash (wheel r (ltb-true r m.count p)) (rw e at (place_differs (rw e (below (ltb-true r m.count p) A.most)))))
        where
          below : r < m.count → m.count ≤ 8 → r < 8
          below u v = omega arith
      is_count r e l false true p q = absurd (clash (place_least m.count (rw e (ltb-true m.count r q))) (past m.count (omega arith)))
      is_count r e l false false p q = omega (arith, ltb-false r m.count p, ltb-false m.count r q)

      go : (r : ℕ) → leading_same m n ≡ r → r ≤ 8 → same m n ≡ true
      go r e l =
          let k : r ≡ m.count = is_count r e l (ltb r m.count) (ltb m.count r) refl refl in
          rw (e, eq-eqb r m.count k, eq-eqb r n.count (k ∙ A.count)) refl

-- ---- ON RECORD AFTER A START: the path's last momenta where it was started, else what was on record
abbrev pub after_by : Fate → Momenta → Momenta → Momenta
after_by (Ok _) m last = last
after_by (Err why) m last = m

module _ (m : Momenta) (answered : Bool) (began last : Momenta) where
  pub commit_leaves : (commit m answered began last).on_record ≡ after_by (commit m answered began last).fate m last
  unfolding commit
  commit_leaves = by answered (same m began)
    where
      by : (a b : Bool) → (cond a (cond b (started last) (not_started m (leading_same m began))) (not_started m 0)).on_record
          ≡ after_by (cond a (cond b (started last) (not_started m (leading_same m began))) (not_started m 0)).fate m last
      by true true = refl
      by true false = refl
      by false b = refl

  -- only an answered preview is started, and only beside the bits that it began from
  pub commit_started : (commit m answered began last).fate ≡ going → (answered ≡ true) × (same m began ≡ true)
  unfolding commit
  commit_started = by answered (same m began)
    where
      by : (a b : Bool) → (cond a (cond b (started last) (not_started m (leading_same m began))) (not_started m 0)).fate ≡ going → (a ≡ true) × (b ≡ true)
      by true true e = (refl, refl)
      by true false e = let z : ◌≡◌ {A = ℕ} 0 1 = cc in absurd (omega arith)
      by false b e = let z : ◌≡◌ {A = ℕ} 0 1 = cc in absurd (omega arith)
