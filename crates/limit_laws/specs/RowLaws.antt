-- The laws of a whole row holdAt to its limits, over `project_controls`, which the contract of `controls::project_controls` cites: done twice, of the negated row, and in
-- order. They are of every row: one that is too short stays as it is, and so do the numbers past a row's controls. Assumes nothing.
use Rattle.std.specs.Prelude.{ℕ, ◌<◌, ◌≤◌, ◌≡◌, refl, Bool, true, false, cond, List, map, T, ltb, length, Float}
use Rattle.std.proofs.Common.{sym, ap, ◌∙◌, arith, ltb→lt}
use Rattle.std.proofs.lemmas.List.{length-map}
use Rattle.std.specs.Float.Ieee.{neg, le}
use Rattle.common.specs.Iter.{iter}
use Rattle.common.specs.Lists.{at}
use Rattle.actuators.specs.Maps.{gimbals}
use Rattle.actuators.specs.declared.ActuatorMap.{ActuatorMap}
use Rattle.control_rows.specs.Parts.{width}
use Rattle.control_limits.specs.Limits.{hold_at, fewer, projected}
use Rattle.controls.specs.Controls.{rig_of, row_fits_value, project_controls}
use Rattle.control_rows.specs.Stored.{stored}
use Rattle.control_rows.specs.StoredLaws.{stored_length}
use Rattle.limit_laws.specs.Holds.{hold_twice, hold_neg, hold_mono}
use Rattle.limit_laws.specs.Rows.{row_limit, held_of, Limited, Numbers}
use Rattle.limit_laws.specs.StoreInner.{stored_every, stored_then, stored_neg}

-- ---- a projected row is the row with its first controls holdAt
fewer_le : (a b : ℕ) → fewer a b ≤ b
fewer_le a b = go (ltb a b) (ltb→lt a b)
  where
    go : (c : Bool) → (T c → a < b) → cond c a b ≤ b
    go true h = let s = h tt in omega arith
    go false h = omega arith

held_le : (m : ActuatorMap) (n : ℕ) → held_of m n ≤ n
held_le m n = go (row_fits_value (rig_of m) 0 n)
  where
    go : (c : Bool) → cond c (fewer (width (rig_of m) (gimbals m.cmgs)) n) 0 ≤ n
    go true = fewer_le (width (rig_of m) (gimbals m.cmgs)) n
    go false = omega arith

project_is : (m : ActuatorMap) (box u : List Float) → project_controls m box u ≡ stored (hold_at (row_limit m box)) u (held_of m (length u))
unfolding project_controls projected iter
project_is m box u = go (row_fits_value (rig_of m) 0 (length u))
  where
    w : ℕ
    w = fewer (width (rig_of m) (gimbals m.cmgs)) (length u)

    go : (c : Bool) → cond c (stored (hold_at (row_limit m box)) u w) u ≡ stored (hold_at (row_limit m box)) u (cond c w 0)
    go true = refl
    go false = refl

project_length : (m : ActuatorMap) (box u : List Float) → length (project_controls m box u) ≡ length u
project_length m box u = ap length (project_is m box u) ∙ stored_length (hold_at (row_limit m box)) u (held_of m (length u))

-- two projections, one after the other, of maps that hold as many controls
pub project_then : (m k s : ActuatorMap) (box lab both u : List Float) → held_of k (length u) ≡ held_of m (length u) → held_of s (length u) ≡ held_of m (length u)
    → ((i : ℕ) → i < held_of m (length u) → hold_at (row_limit k lab) i (hold_at (row_limit m box) i (at u i)) ≡ hold_at (row_limit s both) i (at u i))
    → project_controls k lab (project_controls m box u) ≡ project_controls s both u
project_then m k s box lab both u ek es same =
    project_is k lab (project_controls m box u)
    ∙ ap (λ n. stored (hold_at (row_limit k lab)) (project_controls m box u) (held_of k n)) (project_length m box u)
    ∙ ap (λ n. stored (hold_at (row_limit k lab)) (project_controls m box u) n) ek
    ∙ ap (λ l. stored (hold_at (row_limit k lab)) l (held_of m (length u))) (project_is m box u)
    ∙ stored_then (hold_at (row_limit m box)) (hold_at (row_limit k lab)) (hold_at (row_limit s both)) u (held_of m (length u)) (held_le m (length u)) same
    ∙ ap (stored (hold_at (row_limit s both)) u) (sym es)
    ∙ sym (project_is s both u)

module _ (m : ActuatorMap) (box u : List Float) (L : Limited m box (length u)) (N : Numbers m u) where
  -- A ROW PROJECTED TWICE IS THE ROW PROJECTED ONCE
  pub project_twice : project_controls m box (project_controls m box u) ≡ project_controls m box u
  project_twice = project_then m m m box box box u refl refl (λ i h. hold_twice (L i h) (N i h))

  -- THE NEGATED ROW IS PROJECTED TO THE NEGATED ONE
  pub project_neg : project_controls m box (map neg u) ≡ map neg (project_controls m box u)
  project_neg =
      project_is m box (map neg u)
      ∙ ap (λ n. stored (hold_at (row_limit m box)) (map neg u) (held_of m n)) (length-map u neg)
      ∙ stored_neg (hold_at (row_limit m box)) u (held_of m (length u)) (held_le m (length u)) (λ i h. hold_neg (L i h) (N i h))
      ∙ ap (map neg) (sym (project_is m box u))

  -- WHERE A ROW'S NUMBER IS NOT ABOVE ANOTHER'S, IT IS NOT ABOVE IT AFTER PROJECTION
  pub project_mono : (v : List Float) → length v ≡ length u → Numbers m v → (i : ℕ) → T (le (at u i) (at v i)) → T (le (at (project_controls m box u) i) (at (project_controls m box v) i))
  project_mono v e M i h =
      rw (project_is m box u, project_is m box v, e)
      (stored_every f u n (held_le m (length u)) (λ j x. T (le x (at (stored f v n) j))) i
      (λ b. stored_every f v n long (λ j y. T (le (f j (at u j)) y)) i (λ c. hold_mono (L i c) (N i c) (M i (rw e c)) h) (λ c. absurd (never b c)))
      (λ b. stored_every f v n long (λ j y. T (le (at u j) y)) i (λ c. absurd (never c b)) (λ c. h)))
    where
      f : ℕ → Float → Float
      f = hold_at (row_limit m box)

      n : ℕ
      n = held_of m (length u)

      long : n ≤ length v
      long = rw e (held_le m (length u))

      never : i < n → n ≤ i → ⊥
      never b c = omega arith
