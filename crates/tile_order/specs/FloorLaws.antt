-- The floor: the least time into a tile is one of its times and no other is less, and no order costs less than the sum of the least. Assumes nothing.
use Rattle.std.specs.Prelude.{ℕ, suc, ◌+◌, ◌-◌, ◌<◌, ◌≤◌, min, ◌≡◌, refl, Bool, true, false, cond, List, ◌⊎◌, eqb, leb, get_or}
use Rattle.std.proofs.Common.{sym, ◌∙◌, inl, inr, ⊎_elim, arith, below_more, eqb-true, leb-true, leb-false}
use Rattle.std.proofs.lemmas.Bool.{eqb-false}
use Rattle.tile_order.specs.LoopLaws.{iter_ind}
use Rattle.tile_order.specs.SumLaws.{sum_le, sum_moved}
use Rattle.tile_order.specs.Tables.{time, longest, least, floor, Table}
use Rattle.tile_order.specs.Orders.{Part, cost}

-- m is at most the times from the first k tiles into tile i, and the start or one of them
pub record Lowest (n : ℕ) (t : List ℕ) (i k m : ℕ) : Type 0 where
  pub high : m ≤ longest
  pub under : (j : ℕ) → j < k → (j ≡ i → ⊥) → m ≤ time n t j i
  pub from : (m ≡ longest) ⊎ ((j : ℕ) × (j < k) × (j ≡ i → ⊥) × (m ≡ time n t j i))

module _ (n : ℕ) (t : List ℕ) (i : ℕ) where
  lower : (k m : ℕ) → Lowest n t i k m → Lowest n t i (suc k) (cond (eqb k i) m (min m (time n t k i)))
  lower k m r = by (eqb k i) refl
    where
      wider : (m ≡ longest) ⊎ ((j : ℕ) × (j < suc k) × (j ≡ i → ⊥) × (m ≡ time n t j i))
      wider = ⊎_elim inl (λ w. inr (w.0, omega arith, w.2, w.3)) r.from

      met : (k ≡ i → ⊥) → (q : Bool) → leb m (time n t k i) ≡ q
          → (min m (time n t k i) ≡ longest) ⊎ ((j : ℕ) × (j < suc k) × (j ≡ i → ⊥) × (min m (time n t k i) ≡ time n t j i))
      met ne true e = let q : min m (time n t k i) ≡ m = omega (arith, leb-true m (time n t k i) e) in rw q wider
      met ne false e = inr (k, omega arith, ne, omega (arith, leb-false m (time n t k i) e))

      by : (q : Bool) → eqb k i ≡ q → Lowest n t i (suc k) (cond (eqb k i) m (min m (time n t k i)))
      by true e = rw e (record {
        high = r.high;
        under = λ j l. below_more (λ x. (x ≡ i → ⊥) → m ≤ time n t x i) k r.under (λ ne. absurd (ne (eqb-true k i e))) j (omega arith);
        from = wider;
      })
      by false e = rw e (record {
        high = omega (arith, r.high);
        under = λ j l. below_more (λ x. (x ≡ i → ⊥) → min m (time n t k i) ≤ time n t x i) k (λ x g ne. omega (arith, r.under x g ne)) (λ _. omega arith) j (omega arith);
        from = met (eqb-false k i e) (leb m (time n t k i)) refl;
      })

  pub least_is : Lowest n t i n (least n t i)
  least_is = iter_ind (Lowest n t i) _ longest n (record { high = omega arith; under = λ j l. absurd (omega arith); from = inl refl }) (λ k m _. lower k m)

  -- of a table of two tiles or more it is one of the times
  pub least_met : Table n t → (j : ℕ) → i < n → j < n → (j ≡ i → ⊥) → (j : ℕ) × (j < n) × (j ≡ i → ⊥) × (least n t i ≡ time n t j i)
  least_met r j a b ne =
      ⊎_elim (λ e. (j, b, ne, omega (arith, e, least_is.under j b ne, (r.inside j i b a ne).high))) (λ w. w) least_is.from

-- no order costs less than the floor
module _ (n : ℕ) (t o : List ℕ) (some : 1 ≤ n) (part : Part n o n) where
  nonzero : (i : ℕ) → i < n - 1 → get_or o (i + 1) 0 ≡ 0 → ⊥
  nonzero i l e = part.apart 0 (i + 1) (omega arith) (omega arith) (part.first ∙ sym e)

  pub floor_le : floor n t ≤ cost n t o
  floor_le =
      omega (
        arith,
        sum_moved longest (n - 1) (λ v. least n t (v + 1)) (λ i. get_or o (i + 1) 0 - 1) (λ v _. (least_is n t (v + 1)).high)
            (λ i l. omega (arith, part.below (i + 1) (omega arith), nonzero i l))
            (λ i j l h e. part.apart (i + 1) (j + 1) (omega arith) (omega arith) (omega (arith, nonzero i (omega arith), nonzero j h))),
        sum_le (λ i. least n t (get_or o (i + 1) 0 - 1 + 1)) (λ i. time n t (get_or o i 0) (get_or o (i + 1) 0)) (n - 1) (λ i l.
            let e : get_or o (i + 1) 0 - 1 + 1 ≡ get_or o (i + 1) 0 = omega (arith, nonzero i l) in
            rw e ((least_is n t (get_or o (i + 1) 0)).under (get_or o i 0) (part.below i (omega arith)) (part.apart i (i + 1) (omega arith) (omega arith)))),
      )
