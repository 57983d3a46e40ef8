-- Where the budget was not used up, no order that begins as the tiles placed is cheaper than the best. Assumes nothing.
use Prim.Native.Nat.{ℕ, zero, suc, ◌+◌, ◌-◌, ◌<◌, ◌≤◌}
use Rattle.std.specs.Prelude.{◌≡◌, refl, Bool, true, false, List, eqb, set}
use Rattle.std.proofs.Common.{sym, ◌∙◌, below_more, eqb-true, ne_eqb}
use native.Mathlib.Omega.{arith}
use Rattle.std.proofs.Math.ListN.{get_or}
use Rattle.std.proofs.lemmas.Bool.{eqb-false}
use Rattle.tile_order.specs.AnyLaws.{any_not}
use Rattle.tile_order.specs.SumLaws.{sum_more, sum_part}
use Rattle.tile_order.specs.LoopLaws.{iter_ind}
use Rattle.tile_order.specs.Tables.{time}
use Rattle.tile_order.specs.Search.{Progress, seen, counted, turn, visit}
use Rattle.tile_order.specs.TurnLaws.{turn_by}
use Rattle.tile_order.specs.Orders.{Part, legs, cost}
use Rattle.tile_order.specs.OrderLaws.{Placed, placed_more, own, other, legs_same}
use Rattle.tile_order.specs.ProgressLaws.{Falls, never, turn_falls, visit_falls}

-- a state that is not used up, and whose best costs no more than k
abbrev Done : ℕ → Progress → Type 0
Done k s = s.exhausted ≡ false → s.cost ≤ k

module _ (n b : ℕ) (t : List ℕ) (few : n ≤ 10) (o : List ℕ) (part : Part n o n) where
  -- o begins as the j + 1 tiles in p
  abbrev Begins : ℕ → List ℕ → Type 0
  Begins j p = (i : ℕ) → i < j + 1 → get_or o i 0 ≡ get_or p i 0

  -- the turn of the tile that o has next
  hits : (deeper : List ℕ → ℕ → Progress → Progress) (j : ℕ) (p : List ℕ) (c x : ℕ) (s : Progress) → j + 1 < n → Placed n t j p c → Begins j p → x ≡ get_or o (j + 1) 0
      → ((p' : List ℕ) (c' : ℕ) (s' : Progress) → Placed n t (j + 1) p' c' → Begins (j + 1) p' → Done (cost n t o) (deeper p' c' s'))
      → Done (cost n t o) (turn deeper n b t p j c x s)
  hits deeper j p c x s room r h ex on =
      turn_by deeper n b t p j c x s (Done (cost n t o))
      (λ e f. never s.exhausted e f)
      (λ _ e. never (seen p (j + 1) x) e new)
      (λ _ _ _ f. never true refl f)
      (λ _ _ _ d _. omega (arith, price, sum_part (λ i. time n t (get_or o i 0) (get_or o (i + 1) 0)) (j + 1) (n - 1) (omega arith)))
      (λ _ f _ _. on _ _ (counted s) (placed_more n t j p c x r room few within f) (below_more (λ i. get_or o i 0 ≡ get_or (set p (j + 1) x) i 0) (j + 1)
      (λ i l. h i l ∙ sym (other n t j p c x r room few within f i (λ e. omega arith))) (sym (own n t j p c x r room few within f ∙ ex))))
    where
      within : x < n
      within = rw ex (part.below (j + 1) room)

      new : seen p (j + 1) x ≡ false
      new = any_not _ (j + 1) (λ i l. ne_eqb (get_or p i 0) x (rw (← h i l, ex) (part.apart i (j + 1) l room)))

      price : c + time n t (get_or p j 0) x ≡ legs n t o (j + 1)
      price = sum_more _ j (r.cost ∙ sym (legs_same n t o p j h)) (rw (ex, h j (omega arith)))

  -- a turn after which the tile that o has next has had its turn
  passes : (deeper : List ℕ → ℕ → Progress → Progress) (j : ℕ) (p : List ℕ) (c x : ℕ) (s : Progress) → j + 1 < n → Placed n t j p c → Begins j p
      → ((p' : List ℕ) (c' : ℕ) (s' : Progress) → Placed n t (j + 1) p' c' → Begins (j + 1) p' → Done (cost n t o) (deeper p' c' s'))
      → ((p' : List ℕ) (c' : ℕ) (s' : Progress) → c' ≤ s'.cost → Falls s' (deeper p' c' s'))
      → (get_or o (j + 1) 0 < x → Done (cost n t o) s) → get_or o (j + 1) 0 < suc x → Done (cost n t o) (turn deeper n b t p j c x s)
  passes deeper j p c x s room r h on falls g a = by (eqb x (get_or o (j + 1) 0)) refl
    where
      by : (q : Bool) → eqb x (get_or o (j + 1) 0) ≡ q → Done (cost n t o) (turn deeper n b t p j c x s)
      by true e = hits deeper j p c x s room r h (eqb-true _ _ e) on
      by false e = λ f.
          let ne : x ≡ get_or o (j + 1) 0 → ⊥ = eqb-false _ _ e in
          let d = turn_falls n b t deeper falls p j c x s in
          omega (arith, d.price, g (omega arith) (d.still f))

  pub visit_least : (l j : ℕ) (p : List ℕ) (c : ℕ) (s : Progress) → j + 1 + l ≡ n → Placed n t j p c → Begins j p → Done (cost n t o) (visit n b t l j p c s)
  unfolding visit
  visit_least zero j p c s e r h = λ _. let m : n - 1 ≡ j = omega arith in rw m (omega (arith, r.cost, legs_same n t o p j h))
  visit_least (suc l) j p c s e r h =
      iter_ind (λ k q. get_or o (j + 1) 0 < k → Done (cost n t o) q) (turn (visit n b t l (j + 1)) n b t p j c) s n (λ a. absurd (omega arith))
      (λ x q w g a. passes (visit n b t l (j + 1)) j p c x q (omega arith) r h
      (λ p' c' s' r' h'. visit_least l (j + 1) p' c' s' (omega arith) r' h') (visit_falls n b t l (j + 1)) g a)
      (part.below (j + 1) (omega arith))
