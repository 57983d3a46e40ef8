-- How many placements there can be: with l tiles left each way takes l candidates, and each of them the ways of one tile fewer. Assumes nothing.
use Prim.Native.Nat.{ℕ, zero, suc, ◌+◌, ◌*◌, ◌<◌, ◌≤◌}
use Rattle.std.specs.Prelude.{◌≡◌, refl, Bool, true, false, cond, ◌||◌, List, eqb, get_or}
use Rattle.std.proofs.Common.{sym, mul-le-mul, arith, eqb-true, eq-eqb, ne_eqb}
use Rattle.std.proofs.Math.Nat.{mul-le-mul_right}
use Rattle.std.proofs.lemmas.Bool.{eqb-false}
use Rattle.tile_order.specs.Below.{any, sum}
use Rattle.tile_order.specs.AnyLaws.{any_not}
use Rattle.tile_order.specs.SumLaws.{sum_same, sum_part, zeroed, take_out}
use Rattle.tile_order.specs.LoopLaws.{iter_ind}
use Rattle.tile_order.specs.Search.{Progress, seen, counted, turn, visit}
use Rattle.tile_order.specs.TurnLaws.{turn_by}
use Rattle.tile_order.specs.Orders.{Part}
use Rattle.tile_order.specs.OrderLaws.{Placed, placed_more}
use Rattle.tile_order.specs.ProgressLaws.{never}

unfoldable pub ways : ℕ → ℕ
ways zero = 0
ways (suc l) = suc l * suc (ways l)

pub ways_up : (l m : ℕ) → l ≤ m → ways l ≤ ways m
unfolding ways
ways_up l zero h = let e : l ≡ 0 = omega arith in rw e (omega arith)
ways_up zero (suc m) h = omega arith
ways_up (suc l) (suc m) h = let r : suc (ways l) ≤ suc (ways m) = omega (arith, ways_up l m (omega arith)) in mul-le-mul h r

-- ---- the tiles that are left

-- 1 where x is not in the first k places
unfoldable free : List ℕ → ℕ → ℕ → ℕ
free p k x = cond (seen p k x) 0 1

-- one place more takes its tile out
free_more : (p : List ℕ) (k x : ℕ) → free p (suc k) x ≡ zeroed (free p k) (get_or p k 0) x
unfolding free zeroed any
free_more p k x = by (eqb x (get_or p k 0)) refl
  where
    by : (q : Bool) → eqb x (get_or p k 0) ≡ q → ◌≡◌ {A = ℕ} (cond (eqb (get_or p k 0) x || seen p k x) 0 1) (cond (eqb x (get_or p k 0)) 0 (cond (seen p k x) 0 1))
    by true e = rw (e, eq-eqb (get_or p k 0) x (sym (eqb-true x _ e)))
    by false e = rw (e, ne_eqb (get_or p k 0) x (λ q. eqb-false x (get_or p k 0) e (sym q)))

free_one : (p : List ℕ) (k x : ℕ) → seen p k x ≡ false → free p k x ≡ 1
unfolding free
free_one p k x e = rw e

all_free : (p : List ℕ) (n : ℕ) → sum (free p 0) n ≡ n
unfolding sum
all_free p zero = refl
all_free p (suc n) = omega (arith, all_free p n, free_one p 0 n (any_not _ 0 (λ k l. absurd (omega arith))))

free_sum : (n : ℕ) (p : List ℕ) (k : ℕ) → Part n p k → sum (free p k) n + k ≡ n
free_sum n p zero r = omega (arith, all_free p n)
free_sum n p (suc k) r =
    omega (
      arith,
      sum_same (free p (suc k)) (zeroed (free p k) (get_or p k 0)) n (λ x _. free_more p k x),
      take_out (free p k) (get_or p k 0) n (r.below k (omega arith)),
      free_one p k (get_or p k 0) (any_not _ k (λ i l. ne_eqb (get_or p i 0) (get_or p k 0) (r.apart i k l (omega arith)))),
      free_sum n p k (record { first = r.first; below = λ i l. r.below i (omega arith); apart = λ i j a l. r.apart i j a (omega arith) }),
    )

-- ---- the count

-- not used up, with a count of at most m
abbrev Within : ℕ → Progress → Type 0
Within m s = (s.exhausted ≡ false) × (s.placed ≤ m)

module _ (n b : ℕ) (t : List ℕ) (few : n ≤ 10) where
  -- a turn counts its tile and w more, if it is new
  step : (deeper : List ℕ → ℕ → Progress → Progress) (w j : ℕ) (p : List ℕ) (c x m : ℕ) (s : Progress) → j + 1 < n → x < n → Placed n t j p c
      → ((p' : List ℕ) (c' : ℕ) (s' : Progress) → Placed n t (j + 1) p' c' → s'.exhausted ≡ false → s'.placed + w ≤ b → Within (s'.placed + w) (deeper p' c' s'))
      → (free p (j + 1) x ≡ 1 → m + suc w ≤ b) → Within m s → Within (m + free p (j + 1) x * suc w) (turn deeper n b t p j c x s)
  step deeper w j p c x m s room l r on enough h =
      turn_by deeper n b t p j c x s (Within (m + free p (j + 1) x * suc w))
      (λ e. never s.exhausted e h.0)
      (λ _ _. (h.0, omega arith))
      (λ _ f a. let g = enough (free_one p (j + 1) x f) in absurd (omega arith))
      (λ _ f _ _. (h.0, rw (free_one p (j + 1) x f) (omega arith)))
      (λ _ f _ _. let g = enough (free_one p (j + 1) x f) in
      let q = on _ _ (counted s) (placed_more n t j p c x r room few l f) h.0 (omega arith) in
      (q.0, rw (free_one p (j + 1) x f) (omega (arith, q.1))))

  -- a budget of all the ways is not used up
  pub visit_ways : (l j : ℕ) (p : List ℕ) (c : ℕ) (s : Progress) → j + 1 + l ≡ n → Placed n t j p c → s.exhausted ≡ false → s.placed + ways l ≤ b
      → Within (s.placed + ways l) (visit n b t l j p c s)
  unfolding visit ways sum
  visit_ways zero j p c s e r f h = (f, omega arith)
  visit_ways (suc l) j p c s e r f h =
      let g : ℕ → ℕ = free p (j + 1) in
      let all : sum g n ≡ suc l = omega (arith, free_sum n p (j + 1) r.part) in
      rw all at (iter_ind (λ k q. Within (s.placed + sum g k * suc (ways l)) q) (turn (visit n b t l (j + 1)) n b t p j c) s n (f, omega arith)
      (λ x q a d. let w : Within (s.placed + sum g x * suc (ways l) + g x * suc (ways l)) (turn (visit n b t l (j + 1)) n b t p j c x q) =
      step (visit n b t l (j + 1)) (ways l) j p c x (s.placed + sum g x * suc (ways l)) q (omega arith) a r
      (λ p' c' s' r'. visit_ways l (j + 1) p' c' s' (omega arith) r')
      (λ i. let few-left : sum g x + 1 ≤ suc l = omega (arith, sum_part g (suc x) n a) in omega (arith, mul-le-mul_right (suc (ways l)) few-left)) d in
      (w.0, omega (arith, w.1))))
