-- What a stage of an entry answers and leaves, and the numbers behind an answered path. Definitions only.
use Rattle.std.specs.Prelude.{◌≡◌, List, Float}
use Rattle.search_laws.specs.Fits.{Fit}
use Rattle.planner.specs.Plans as Plans
use Rattle.planner.specs.declared.Planned.{Planned}
use Rattle.common.specs.Refusals.{going}

-- The stage answers what `is` says, and leaves `exit` of the workspace ws; behind an answered path f64 holds the numbers of the seed's decision z.
pub record Outcome (is : Planned) (ws : List Float) (z : List Float) (r : Planned) (exit : List Float) : Type 0 where
  pub same : r ≡ is
  pub left : exit ≡ Plans.leaves r.runs ws
  pub held : r.fate ≡ going → Fit z

-- ---- the entries: the answer, the workspace, and what holds of the answer
abbrev pub Entry : Planned → (Planned → Type 0) → List Float → Planned → List Float → Type 0
Entry is P ws r exit = (r ≡ is) × ((exit ≡ Plans.leaves r.runs ws) × P r)
