-- How many forward runs an eigenaxis plan begins: at most 29 tries of 7,802 runs each. Assumes nothing.
use Prim.Native.Nat.{ℕ, zero, suc, ◌+◌, ◌*◌, ◌≤◌}
use Rattle.std.specs.Prelude.{◌≡◌, Bool, true, false, cond, Float, Ok, Err}
use native.Mathlib.Omega.{arith}
use Rattle.std.proofs.Math.Nat.{suc-mul}
use Rattle.common.specs.Iter.{iter}
use Rattle.problem.specs.declared.Problem.{Problem}
use Rattle.planner.specs.RunsMost.{plan_from_most}
use Rattle.eigenaxis_seed.specs.declared.Shape.{Shape}
use Rattle.eigenaxis_seed.specs.declared.Seeding.{Seeding}
use Rattle.eigenaxis.specs.Ladders as Ladders
use Rattle.eigenaxis.specs.declared.Ladder.{Ladder}
use Rattle.common.specs.Refusals.{Fate}

-- ---- the ladder
module _ (q : Problem) (shape : Shape) (size : ℕ) where
  rung_by_law : (e : Fate) (s : Ladder) (t : Float) (z : Seeding) → (Ladders.rung_by e s t (Ladders.tried q size t z)).runs ≤ s.runs + 7802
  rung_by_law (Ok _) s t z = omega (arith, plan_from_most q size t z.rates z.torques)
  rung_by_law (Err why) s t z = omega (arith, plan_from_most q size t z.rates z.torques)

  rung_of_law : (b : Bool) (s : Ladder) (t : Float) (z : Seeding) → (Ladders.rung_of b q size s t z).runs ≤ s.runs + 7802
  rung_of_law true s t z = rung_by_law (Ladders.tried q size t z).fate s t z
  rung_of_law false s t z = omega arith

  pub rung_most : (s : Ladder) (t : Float) → (Ladders.rung q shape size s t).runs ≤ s.runs + 7802
  unfolding Ladders.rung
  rung_most s t = rung_of_law (Ladders.seed_at q shape t).fits s t (Ladders.seed_at q shape t)

  climb_by : (b : Bool) (s : Ladder) → (cond b (Ladders.rung q shape size s s.next) s).runs ≤ s.runs + 7802
  climb_by true s = rung_most s s.next
  climb_by false s = omega arith

  pub climb_turn_most : (k : ℕ) (s : Ladder) → (Ladders.climb_turn q shape size k s).runs ≤ s.runs + 7802
  unfolding Ladders.climb_turn
  climb_turn_most k s = climb_by s.climbing s

  narrow_by_law : (e : Fate) (s : Ladder) → (Ladders.narrow_by e q shape size s).runs ≤ s.runs + 7802
  narrow_by_law (Ok _) s = rung_most s _
  narrow_by_law (Err why) s = omega arith

  pub narrow_turn_most : (k : ℕ) (s : Ladder) → (Ladders.narrow_turn q shape size k s).runs ≤ s.runs + 7802
  unfolding Ladders.narrow_turn
  narrow_turn_most k s = narrow_by_law s.planned.fate s

  pub climbed_most : (s : Ladder) (n : ℕ) → (iter (Ladders.climb_turn q shape size) s n).runs ≤ s.runs + n * 7802
  unfolding iter
  climbed_most s zero = omega arith
  climbed_most s (suc n) = omega (arith, climb_turn_most n (iter (Ladders.climb_turn q shape size) s n), climbed_most s n, suc-mul n 7802)

  pub narrowed_most : (s : Ladder) (n : ℕ) → (iter (Ladders.narrow_turn q shape size) s n).runs ≤ s.runs + n * 7802
  unfolding iter
  narrowed_most s zero = omega arith
  narrowed_most s (suc n) = omega (arith, narrow_turn_most n (iter (Ladders.narrow_turn q shape size) s n), narrowed_most s n, suc-mul n 7802)

  pub start_most : (Ladders.start q shape size).runs ≤ 7802
  unfolding Ladders.start
  start_most = plan_from_most q size Ladders.longest (Ladders.seed_at q shape Ladders.longest).rates (Ladders.seed_at q shape Ladders.longest).torques

  -- after the climb
  pub climbed_room : {r : Ladder} (s : Ladder) → r ≡ iter (Ladders.climb_turn q shape size) s 20 → s.runs ≤ 7802 → r.runs ≤ 163842
  climbed_room s e h = rw e (omega (arith, climbed_most s 20))

-- THE BOUND: the runs of every try
pub runs_bound : (p : Problem) (shape : Shape) (size : ℕ) → (Ladders.plan_eigenaxis p shape size).runs ≤ 226258
unfolding Ladders.plan_eigenaxis Ladders.ladder
runs_bound p shape size =
    let q = Ladders.unweighted p in
    let first = Ladders.start q shape size in
    let climbed = iter (Ladders.climb_turn q shape size) first 20 in
    omega (arith, start_most q shape size, climbed_most q shape size first 20, narrowed_most q shape size climbed 8)
