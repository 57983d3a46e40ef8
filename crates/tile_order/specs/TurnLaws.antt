-- One turn of the search by cases, and the search as a loop of turns. Assumes nothing.
use Rattle.std.specs.Prelude.{ℕ, zero, suc, ◌+◌, ◌-◌, ◌<◌, ◌≤◌, ◌≡◌, refl, Bool, true, false, List, leb, get_or, set}
use Rattle.std.proofs.Common.{sym, ◌∙◌, arith, leb-true, leb-false}
use Rattle.common.specs.Iter.{iter}
use Rattle.tile_order.specs.Tables.{time}
use Rattle.tile_order.specs.Search.{Progress, progress, seen, spent, counted, turn, visit}

module _ (deeper : List ℕ → ℕ → Progress → Progress) (n b : ℕ) (t p : List ℕ) (j c x : ℕ) (s : Progress) where
  pub turn_shut : s.exhausted ≡ true → turn deeper n b t p j c x s ≡ s
  unfolding turn
  turn_shut e = rw e

  pub turn_seen : s.exhausted ≡ false → seen p (j + 1) x ≡ true → turn deeper n b t p j c x s ≡ s
  unfolding turn
  turn_seen e f = rw (e, f)

  pub turn_spent : s.exhausted ≡ false → seen p (j + 1) x ≡ false → leb b s.placed ≡ true → turn deeper n b t p j c x s ≡ spent s
  unfolding turn
  turn_spent e f g = rw (e, f, g)

  pub turn_dropped : s.exhausted ≡ false → seen p (j + 1) x ≡ false → leb b s.placed ≡ false → leb s.cost (c + time n t (get_or p j 0) x) ≡ true
      → turn deeper n b t p j c x s ≡ counted s
  unfolding turn
  turn_dropped e f g h = rw (e, f, g, h)

  pub turn_deeper : s.exhausted ≡ false → seen p (j + 1) x ≡ false → leb b s.placed ≡ false → leb s.cost (c + time n t (get_or p j 0) x) ≡ false
      → turn deeper n b t p j c x s ≡ deeper (set p (j + 1) x) (c + time n t (get_or p j 0) x) (counted s)
  unfolding turn
  turn_deeper e f g h = rw (e, f, g, h)

  -- the same, as code comes to it: the time is m
  pub turn_on : {m : ℕ} {r : Progress} → s.exhausted ≡ false → seen p (j + 1) x ≡ false → leb b s.placed ≡ false → m ≡ time n t (get_or p j 0) x → leb s.cost (c + m) ≡ false
      → r ≡ deeper (set p (j + 1) x) (c + m) (counted s) → r ≡ turn deeper n b t p j c x s
  turn_on e f g q h k = rw q at k ∙ sym (turn_deeper e f g (rw q at h))

  -- what holds of each way that a turn can go holds of the turn
  pub turn_by : (P : Progress → Type 0) → (s.exhausted ≡ true → P s) → (s.exhausted ≡ false → seen p (j + 1) x ≡ true → P s)
      → (s.exhausted ≡ false → seen p (j + 1) x ≡ false → b ≤ s.placed → P (spent s))
      → (s.exhausted ≡ false → seen p (j + 1) x ≡ false → s.placed < b → s.cost ≤ c + time n t (get_or p j 0) x → P (counted s))
      → (s.exhausted ≡ false → seen p (j + 1) x ≡ false → s.placed < b → c + time n t (get_or p j 0) x < s.cost
      → P (deeper (set p (j + 1) x) (c + time n t (get_or p j 0) x) (counted s)))
      → P (turn deeper n b t p j c x s)
  turn_by P shut old used dear on = by_over s.exhausted refl
    where
      by_cost : s.exhausted ≡ false → seen p (j + 1) x ≡ false → leb b s.placed ≡ false → (q : Bool) → leb s.cost (c + time n t (get_or p j 0) x) ≡ q → P (turn deeper n b t p j c x s)
      by_cost e f g true h = rw (turn_dropped e f g h) (dear e f (leb-false _ _ g) (leb-true _ _ h))
      by_cost e f g false h = rw (turn_deeper e f g h) (on e f (leb-false _ _ g) (leb-false _ _ h))

      by_budget : s.exhausted ≡ false → seen p (j + 1) x ≡ false → (q : Bool) → leb b s.placed ≡ q → P (turn deeper n b t p j c x s)
      by_budget e f true g = rw (turn_spent e f g) (used e f (leb-true _ _ g))
      by_budget e f false g = by_cost e f g (leb s.cost (c + time n t (get_or p j 0) x)) refl

      by_seen : s.exhausted ≡ false → (q : Bool) → seen p (j + 1) x ≡ q → P (turn deeper n b t p j c x s)
      by_seen e true f = rw (turn_seen e f) (old e f)
      by_seen e false f = by_budget e f (leb b s.placed) refl

      by_over : (q : Bool) → s.exhausted ≡ q → P (turn deeper n b t p j c x s)
      by_over true e = rw (turn_shut e) (shut e)
      by_over false e = by_seen e (seen p (j + 1) x) refl

-- no tile is left; one at least is
pub visit_none : (n b : ℕ) (t : List ℕ) (l j : ℕ) (p : List ℕ) (c : ℕ) (s : Progress) → l ≡ 0
    → visit n b t l j p c s ≡ progress p c s.placed s.exhausted
unfolding visit
visit_none n b t l j p c s e = rw e

pub visit_some : (n b : ℕ) (t : List ℕ) (l j : ℕ) (p : List ℕ) (c : ℕ) (s : Progress) → 0 < l
    → visit n b t l j p c s ≡ iter (turn (visit n b t (l - 1) (j + 1)) n b t p j c) s n
unfolding visit
visit_some n b t zero j p c s h = absurd (omega arith)
visit_some n b t (suc l) j p c s h = let e : suc l - 1 ≡ l = omega arith in rw e
