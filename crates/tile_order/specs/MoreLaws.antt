-- More budget never gives a dearer order: a search with more does the same until the other's budget is used up, and from there its best does not rise. Assumes nothing.
use Prim.Native.Nat.{ℕ, zero, suc, ◌+◌, ◌-◌, ◌<◌, ◌≤◌}
use Rattle.std.specs.Prelude.{◌≡◌, refl, true, false, List, ◌⊎◌, get_or, set}
use Rattle.std.proofs.Common.{subst, inr, ⊎_elim, arith, le-leb}
use Rattle.std.proofs.Math.Logic.{inl}
use Rattle.std.proofs.lemmas.Bool.{lt-leb}
use Rattle.tile_order.specs.LoopLaws.{iter_ind, iter_pair}
use Rattle.tile_order.specs.Tables.{time}
use Rattle.tile_order.specs.Search.{Progress, seen, counted, turn, visit}
use Rattle.tile_order.specs.TurnLaws.{turn_by, turn_shut, turn_seen, turn_dropped, turn_deeper, visit_some}
use Rattle.tile_order.specs.ProgressLaws.{Falls, never, turn_falls, visit_falls}

-- budgets b and b': the same state, not used up; or the first is used up, the second's best is no dearer, and a larger budget has placed more
abbrev pub Ahead : ℕ → ℕ → Progress → Progress → Type 0
Ahead b b' s r = ((s ≡ r) × (s.exhausted ≡ false) × (s.placed ≤ b)) ⊎ ((s.exhausted ≡ true) × (r.cost ≤ s.cost) × (b < b' → s.placed < r.placed))

module _ (n b b' : ℕ) (more : b ≤ b') (t : List ℕ) where
  -- one turn of each, over searches that are so related
  module _ (d d' : List ℕ → ℕ → Progress → Progress) (falls : (p : List ℕ) (c : ℕ) (s : Progress) → c ≤ s.cost → Falls s (d' p c s))
      (on : (p : List ℕ) (c : ℕ) (s : Progress) → s.exhausted ≡ false → s.placed ≤ b → Ahead b b' (d p c s) (d' p c s)) (p : List ℕ) (j c x : ℕ) where
    -- with a budget left, a tile that is new is counted
    counts : (s : Progress) → s.exhausted ≡ false → seen p (j + 1) x ≡ false → s.placed < b' → s.placed < (turn d' n b' t p j c x s).placed
    counts s e f l =
        turn_by d' n b' t p j c x s (λ q. s.placed < q.placed)
        (λ g. never s.exhausted g e)
        (λ _ g. never (seen p (j + 1) x) g f)
        (λ _ _ g. absurd (omega arith))
        (λ _ _ _ _. omega arith)
        (λ _ _ _ h. omega (arith, (falls (set p (j + 1) x) (c + time n t (get_or p j 0) x) (counted s) (omega arith)).count))

    same : (s : Progress) → s.exhausted ≡ false → s.placed ≤ b → Ahead b b' (turn d n b t p j c x s) (turn d' n b' t p j c x s)
    same s e l =
        turn_by d n b t p j c x s (λ q. Ahead b b' q (turn d' n b' t p j c x s))
        (λ f. never s.exhausted f e)
        (λ _ f. rw (turn_seen d' n b' t p j c x s e f) (inl (refl, e, l)))
        (λ _ f _. inr (refl, (turn_falls n b' t d' falls p j c x s).price, λ h. counts s e f (omega arith)))
        (λ _ f g h. rw (turn_dropped d' n b' t p j c x s e f (lt-leb b' s.placed (omega arith)) (le-leb _ _ h)) (inl (refl, e, omega arith)))
        (λ _ f g h. rw (turn_deeper d' n b' t p j c x s e f (lt-leb b' s.placed (omega arith)) (lt-leb _ _ h)) (on _ _ (counted s) e (omega arith)))

    turn_ahead : (s r : Progress) → Ahead b b' s r → Ahead b b' (turn d n b t p j c x s) (turn d' n b' t p j c x r)
    turn_ahead s r =
        ⊎_elim (λ h. subst (λ q. Ahead b b' (turn d n b t p j c x s) (turn d' n b' t p j c x q)) h.0 (same s h.1 h.2))
        (λ h. let f = turn_falls n b' t d' falls p j c x r in
        rw (turn_shut d n b t p j c x s h.0) (inr (h.0, omega (arith, h.1), λ g. omega (arith, h.2 g))))

  pub visit_ahead : (l j : ℕ) (p : List ℕ) (c : ℕ) (s : Progress) → s.exhausted ≡ false → s.placed ≤ b → Ahead b b' (visit n b t l j p c s) (visit n b' t l j p c s)
  unfolding visit
  visit_ahead zero j p c s e h = inl (refl, e, h)
  visit_ahead (suc l) j p c s e h =
      iter_pair (Ahead b b') (turn (visit n b t l (j + 1)) n b t p j c) (turn (visit n b' t l (j + 1)) n b' t p j c) s s n (inl (refl, e, h))
      (λ x q r w. turn_ahead (visit n b t l (j + 1)) (visit n b' t l (j + 1)) (visit_falls n b' t l (j + 1)) (visit_ahead l (j + 1)) p j c x q r)

-- with no budget nothing changes, where a tile is wanted
pub visit_nothing : (n : ℕ) (t : List ℕ) (l j : ℕ) (p : List ℕ) (c : ℕ) (s : Progress) → 0 < l → (visit n 0 t l j p c s).order ≡ s.order
visit_nothing n t l j p c s h =
    rw (visit_some n 0 t l j p c s h)
    (iter_ind (λ _ q. q.order ≡ s.order) (turn (visit n 0 t (l - 1) (j + 1)) n 0 t p j c) s n refl
    (λ x q _ g. turn_by (visit n 0 t (l - 1) (j + 1)) n 0 t p j c x q (λ r. r.order ≡ s.order) (λ _. g) (λ _ _. g) (λ _ _ _. g)
    (λ _ _ a _. absurd (omega arith)) (λ _ _ a _. absurd (omega arith))))
