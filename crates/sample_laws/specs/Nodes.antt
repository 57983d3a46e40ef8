-- What the laws of samples ask of a run's nodes. Definitions only.
use Rattle.std.specs.Prelude.{List, ℕ, ◌<◌, T, Float}
use Rattle.std.specs.Float.Ieee.Scale.{finite}
use Rattle.mean_laws.specs.Means.{Plain}
use Rattle.forward.specs.declared.Node.{Node}
use Rattle.forward.specs.Runs.{node_at}
use Rattle.run_laws.specs.Values.{Fine3}
use Rattle.sample_laws.specs.Courses.{RunNode}

-- what is asked of the nodes: those of a run of steps of the time dt, finite
pub record RunNodes (nodes : List Node) (dt : Float) : Type 0 where
  pub step : Plain dt
  pub made : (k : ℕ) → k < 17 → RunNode dt k (node_at nodes k)
  pub time : (k : ℕ) → k < 17 → T (finite (node_at nodes k).t)
  pub rate : (k : ℕ) → k < 17 → Fine3 (node_at nodes k).w
