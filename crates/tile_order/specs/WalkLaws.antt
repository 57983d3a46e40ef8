-- The definition tries tile after tile, the code goes from link to link: what is passed over is placed already. Assumes nothing.
use Rattle.std.specs.Prelude.{ℕ, ◌+◌, ◌≤◌, ◌≡◌, Bool, true, false, List, get_or, set}
use Rattle.std.proofs.Common.{arith, set-set}
use Rattle.std.proofs.lemmas.List.{set-get_or}
use Rattle.common.specs.Iter.{iter}
use Rattle.common.specs.IterLaws.{iter_next, iter_stays}
use Rattle.tile_order.specs.LoopLaws.{iter_skip}
use Rattle.tile_order.specs.Search.{Progress, progress, turn}
use Rattle.tile_order.specs.Inner.{Links, Stands}
use Rattle.tile_order.specs.TurnLaws.{turn_shut, turn_seen}

-- a place written over and written back
pub put_back : (l : List ℕ) (i a b : ℕ) {m : List ℕ} → m ≡ set l i a → get_or l i 0 ≡ b → set m i b ≡ l
put_back l i a b e f = rw (e, set-set l i a b, ← f) (set-get_or l i 0)

module _ (deeper : List ℕ → ℕ → Progress → Progress) (n b : ℕ) (t p : List ℕ) (j c : ℕ) (s₀ : Progress) where
  module _ (a : List ℕ) (r : Links n p (j + 1) a) (i : ℕ) (w : Stands n p (j + 1) i) {s : Progress} (e : s ≡ iter (turn deeper n b t p j c) s₀ i) (going : s.exhausted ≡ false) where
    -- up to the tile that place i links to, nothing changes
    to_link : s ≡ iter (turn deeper n b t p j c) s₀ (get_or a i 0)
    to_link = iter_skip (turn deeper n b t p j c) s₀ i (get_or a i 0) (r.link i w).above e (λ z g l. turn_seen deeper n b t p j c z s going ((r.link i w).between z g l))

    -- with its turn, as code comes to it: what was lent is the same, and the turn answered whether the budget is used up
    pub past_link : {o p' a' : List ℕ} {k m : ℕ} {x z : Bool} → p' ≡ p → a' ≡ a → x ≡ z → progress o k m x ≡ turn deeper n b t p' j c (get_or a' i 0) s
        → progress o k m z ≡ iter (turn deeper n b t p j c) s₀ (get_or a i 0 + 1)
    past_link f g h q = iter_next (turn deeper n b t p j c) s₀ (get_or a i 0) to_link (rw (f, g, h) at q)

    -- a place that links to no tile
    pub at_end : n ≤ get_or a i 0 → s ≡ iter (turn deeper n b t p j c) s₀ n
    at_end h = let z : get_or a i 0 ≡ n = omega (arith, (r.link i w).top) in rw z at to_link

  -- a budget that is used up stays so
  pub shut : (k : ℕ) {s : Progress} → k ≤ n → s ≡ iter (turn deeper n b t p j c) s₀ k → s.exhausted ≡ true → s ≡ iter (turn deeper n b t p j c) s₀ n
  shut k {s} h e f = iter_stays (turn deeper n b t p j c) s₀ k n h e (λ x. turn_shut deeper n b t p j c x s f)
