-- What the search keeps: an order and its cost, a count within the budget, and a best that does not rise. Assumes nothing.
use Prim.Native.Nat.{ℕ, zero, suc, ◌+◌, ◌-◌, ◌<◌, ◌≤◌}
use Rattle.std.specs.Prelude.{◌≡◌, Bool, true, false, List, length, get_or}
use native.Mathlib.Omega.{arith}
use Rattle.tile_order.specs.LoopLaws.{iter_ind}
use Rattle.tile_order.specs.Search.{Progress, counted, turn, visit}
use Rattle.tile_order.specs.TurnLaws.{turn_by}
use Rattle.tile_order.specs.Orders.{Part, cost}
use Rattle.tile_order.specs.OrderLaws.{Placed, placed_more}

pub never : {A : Type 0} (b : Bool) → b ≡ true → b ≡ false → A
never b e f = let z : ◌≡◌ {A = ℕ} 0 1 = cc in absurd (omega arith)

-- the best is an order in the first n of ten places, at its cost; the count is within the budget, and all of it where one more was wanted
pub record Sound (n b : ℕ) (t : List ℕ) (s : Progress) : Type 0 where
  pub part : Part n s.order n
  pub long : length s.order ≡ 10
  pub past : (i : ℕ) → n ≤ i → get_or s.order i 0 ≡ 0
  pub price : s.cost ≡ cost n t s.order
  pub within : s.placed ≤ b
  pub used : s.exhausted ≡ true → s.placed ≡ b

-- from s to r the best does not rise, the count does not fall, and what was used up stays so
pub record Falls (s r : Progress) : Type 0 where
  pub price : r.cost ≤ s.cost
  pub count : s.placed ≤ r.placed
  pub still : r.exhausted ≡ false → s.exhausted ≡ false

module _ (n b : ℕ) (t : List ℕ) where
  sound_counted : (s : Progress) → Sound n b t s → s.exhausted ≡ false → s.placed < b → Sound n b t (counted s)
  sound_counted s h e l = record {
    part = h.part;
    long = h.long;
    past = h.past;
    price = h.price;
    within = omega arith;
    used = λ f. never s.exhausted f e;
  }

  pub visit_sound : (l j : ℕ) (p : List ℕ) (c : ℕ) (s : Progress) → n ≤ 10 → j + 1 + l ≡ n → Placed n t j p c → Sound n b t s → Sound n b t (visit n b t l j p c s)
  unfolding visit
  visit_sound zero j p c s few e r h =
      let q : j + 1 ≡ n = omega arith in
      let m : j ≡ n - 1 = omega arith in
      record { part = rw q at r.part; long = r.long; past = r.past; price = rw m at r.cost; within = h.within; used = h.used }
  visit_sound (suc l) j p c s few e r h =
      iter_ind (λ _ q. Sound n b t q) (turn (visit n b t l (j + 1)) n b t p j c) s n h
      (λ x q w g. turn_by (visit n b t l (j + 1)) n b t p j c x q (Sound n b t) (λ _. g) (λ _ _. g)
      (λ _ _ a. record { part = g.part; long = g.long; past = g.past; price = g.price; within = g.within; used = λ _. omega arith })
      (λ a _ d _. sound_counted q g a d)
      (λ a f d _. visit_sound l (j + 1) _ _ (counted q) few (omega arith) (placed_more n t j p c x r (omega arith) few w f) (sound_counted q g a d)))

  -- one turn, over a search that does not raise a best that costs more than its part
  pub turn_falls : (deeper : List ℕ → ℕ → Progress → Progress) → ((p : List ℕ) (c : ℕ) (s : Progress) → c ≤ s.cost → Falls s (deeper p c s))
      → (p : List ℕ) (j c x : ℕ) (s : Progress) → Falls s (turn deeper n b t p j c x s)
  turn_falls deeper h p j c x s =
      turn_by deeper n b t p j c x s (Falls s)
      (λ _. record { price = omega arith; count = omega arith; still = λ e. e })
      (λ _ _. record { price = omega arith; count = omega arith; still = λ e. e })
      (λ a _ _. record { price = omega arith; count = omega arith; still = λ _. a })
      (λ _ _ _ _. record { price = omega arith; count = omega arith; still = λ e. e })
      (λ a _ _ d. let g = h _ _ (counted s) (omega arith) in record { price = g.price; count = omega arith; still = λ _. a })

  pub visit_falls : (l j : ℕ) (p : List ℕ) (c : ℕ) (s : Progress) → c ≤ s.cost → Falls s (visit n b t l j p c s)
  unfolding visit
  visit_falls zero j p c s h = record { price = h; count = omega arith; still = λ e. e }
  visit_falls (suc l) j p c s h =
      iter_ind (λ _ q. Falls s q) (turn (visit n b t l (j + 1)) n b t p j c) s n (record { price = omega arith; count = omega arith; still = λ e. e })
      (λ x q w g. let f = turn_falls (visit n b t l (j + 1)) (visit_falls l (j + 1)) p j c x q in
      record { price = omega arith; count = omega arith; still = λ e. g.still (f.still e) })
