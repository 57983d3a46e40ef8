-- Between the nodes: what is promised of the rates of an answered path's dense samples, for every problem, every seed and every workspace. Definitions only.
use Rattle.std.specs.Prelude.{◌≡◌, List, ℕ, ◌+◌, ◌<◌, T, Float}
use Rattle.std.specs.Float.{binary64}
use Rattle.std.specs.Float.Ieee.{sub, div, lt, le, eq}
use Rattle.common.specs.Floats.{plus_zero}
use Rattle.common.specs.Answer.{Given}
use Rattle.common.specs.Lists.{at}
use Rattle.float_laws.specs.Exact.{exact}
use Rattle.mean_laws.specs.Means.{Fraction, Bounded}
use Rattle.forward.specs.declared.Node.{Node}
use Rattle.forward.specs.Runs.{node_at}
use Rattle.planner.specs.declared.Path.{Path}
use Rattle.samples.specs.Answers.{of_sampled}
use Rattle.samples.specs.Rows.{rows}
use Rattle.samples.specs.Samples.{sample}
use Rattle.samples.specs.declared.PathSample.{PathSample}

-- how far the time t lies on the way from node i to the next, as it is computed
abbrev pub fraction_of : List Node → ℕ → Float → Float
fraction_of nodes i t = div binary64 (sub binary64 t (node_at nodes i).t) (sub binary64 (node_at nodes (i + 1)).t (node_at nodes i).t)

-- the sample has node i's rate, bit for bit
abbrev pub SameRate : List Node → ℕ → PathSample → Type 0
SameRate nodes i s = (k : ℕ) → k < 3 → at s.w k ≡ at (node_at nodes i).w k

-- The sample's time lies after node i's, and not after the next one's. The fraction of the way is from 0 to 1; where it is 0 the rate is node i's, as exact numbers.
pub record Amid (nodes : List Node) (i : ℕ) (s : PathSample) : Type 0 where
  pub after : T (lt (node_at nodes i).t s.t)
  pub upto : T (le s.t (node_at nodes (i + 1)).t)
  pub part : Fraction (fraction_of nodes i s.t)
  pub from_zero : T (eq (fraction_of nodes i s.t) plus_zero) → (k : ℕ) → k < 3 → exact (at s.w k) ≡ exact (at (node_at nodes i).w k)

-- where a sample lies, i the earlier of its two nodes: not after the first node, whose rate it has; not before the last, whose rate it has; or between two
pub data Placed (nodes : List Node) (i : ℕ) (s : PathSample) : Type 0 where
  at_first : i ≡ 0 → T (le s.t (node_at nodes 0).t) → SameRate nodes 0 s → Placed nodes i s
  at_last : i ≡ 15 → T (le (node_at nodes 16).t s.t) → SameRate nodes 16 s → Placed nodes i s
  amid : Amid nodes i s → Placed nodes i s

-- WITHIN ITS NODES: each part of the sample's rate is finite and, as an exact number, in size at most that of the larger of its two nodes' parts times 1 + 2 ^ -50, plus 2 ^ -1070
pub record WithinNodes (nodes : List Node) (s : PathSample) : Type 0 where
  pub i : ℕ
  pub has_next : i < 16
  pub placed : Placed nodes i s
  pub rates : (k : ℕ) → k < 3 → Bounded (at (node_at nodes i).w k) (at (node_at nodes (i + 1)).w k) (at s.w k)

-- BETWEEN THE NODES, of a path: so is every dense sample of it that is given, whatever inertia, tolerance, number and acceleration are asked for
abbrev pub BetweenNodes : Path → Type 0
BetweenNodes path =
    (j : List (List Float)) (tol : Float) (requested : ℕ) (alpha : Float) (index : ℕ) (s : PathSample)
    → of_sampled (sample j tol path.duration (rows path.nodes) requested alpha index) ≡ Given s → WithinNodes path.nodes s
