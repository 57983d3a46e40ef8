-- What the turns of a mosaic's code ask for, and what they answer beside a definition: the workspace, the promises of an answered leg. Definitions only.
use Rattle.std.specs.Prelude.{ℕ, ◌≤◌, ◌≡◌, List, length, Float}
use Rattle.geom.specs.declared.Quat.{Quat}
use Rattle.problem.specs.declared.Momenta.{Momenta}
use Rattle.problem.specs.declared.Problem.{Problem}
use Rattle.planner.specs.Plans.{leaves}
use Rattle.planner.specs.declared.Planned.{Planned}
use Rattle.mosaic.specs.Mosaics.{full_runs_value, leg_problem}
use Rattle.mosaic.specs.Mosaics as Mosaics
use Rattle.mosaic.specs.Ways.{planner_by, PromisedBy, AnswersBy}
use Rattle.mosaic.specs.declared.Cursor.{Cursor}
use Rattle.mosaic.specs.declared.Advanced.{Advanced}
use Rattle.mosaic.specs.declared.ways.Way.{Way}

-- ---- what an answered leg has

-- the promises of a way's answer for a leg, `size` numbers being lent
abbrev pub LegAnswers : Way → ℕ → Problem → Quat → Quat → Momenta → Planned → Type 0
LegAnswers way size p from to m leg = AnswersBy way size (leg_problem p from to m) leg

-- demand 3 of a leg
abbrev pub LegPromised : Way → ℕ → Problem → Quat → Quat → Momenta → Planned → Type 0
LegPromised way size p from to m leg = PromisedBy way size (leg_problem p from to m) leg

-- ---- one turn

-- there is a further leg, and a word holds the sums with it
pub record Open (c : Cursor) : Type 0 where
  pub index : c.index ≤ 62
  pub runs : c.runs ≤ full_runs_value

-- a cursor that goes on was moved by the answer `leg`
pub record Turned (leg : Planned) (way : Way) (p : Problem) (c : Cursor) (from to : Quat) (ws : List Float) (r : Advanced) (exit : List Float) : Type 0 where
  pub planned : r.planned ≡ leg
  pub cursor : r.cursor ≡ Mosaics.moved c leg
  pub left : exit ≡ leaves r.planned.runs ws
  pub answers : LegAnswers way (length ws) p from to c.momenta r.planned

-- WHAT `next` ANSWERS: the cursor, the leg, the workspace (untouched where no run began, else all +0), and every promise of an answered leg
pub record Advances (way : Way) (p : Problem) (c : Cursor) (from to : Quat) (ws : List Float) (r : Advanced) (exit : List Float) : Type 0 where
  pub cursor : r.cursor ≡ Mosaics.next (planner_by way (length ws)) p c from to
  pub planned : r.planned ≡ Mosaics.planned (planner_by way (length ws)) p c from to
  pub left : exit ≡ leaves r.planned.runs ws
  pub answers : LegAnswers way (length ws) p from to c.momenta r.planned
