-- What the whole mosaic's code asks for, and what it answers beside the flight's definition: the lent lists, the workspace, demand 3 of every leg. Definitions only.
use Rattle.std.specs.Prelude.{ℕ, ◌+◌, ◌≤◌, ◌≡◌, List, length, Float}
use Rattle.std.proofs.Math.Option.{some}
use Rattle.std.proofs.Math.ListN.{get_elem?}
use Rattle.geom.specs.declared.Quat.{Quat}
use Rattle.problem.specs.declared.Momenta.{Momenta}
use Rattle.problem.specs.declared.Problem.{Problem}
use Rattle.planner.specs.Plans.{leaves}
use Rattle.planner.specs.declared.Planned.{Planned}
use Rattle.mosaic.specs.Mosaics.{Flight, momenta_at}
use Rattle.mosaic.specs.Turns.{LegPromised}
use Rattle.mosaic.specs.declared.Cursor.{Cursor}
use Rattle.mosaic.specs.declared.ways.Way.{Way}
use Rattle.whole_mosaic.specs.Layout as Layout

-- there is a tile more than legs, at most 63 legs, and a row for each leg in lists of a, b, c and d rows
pub record Lends (legs tiles a b c d : ℕ) : Type 0 where
  pub enough : legs + 1 ≤ tiles
  pub most : legs ≤ 63
  pub counts : legs ≤ a
  pub times : legs ≤ b
  pub decisions : legs ≤ c
  pub nodes : legs ≤ d

-- WHAT `plan_mosaic` ANSWERS: the flight's cursor; in each lent list a row for each of its legs, in turn, and behind them what stood there; the workspace (untouched
-- where no leg began a run, else all +0); and demand 3 of every leg
pub record Filled (f : Flight) (way : Way) (p : Problem) (tile : ℕ → Quat) (m : Momenta) (r : Cursor) (counts counts' : List (List ℕ)) (times times' decisions decisions' : List (List Float)) (nodes nodes' : List (List (List Float))) (ws ws' : List Float) : Type 0 where
  pub cursor : r ≡ f.cursor
  pub counts_as : counts' ≡ Layout.leg_rows Layout.counts f.legs counts
  pub times_as : times' ≡ Layout.leg_rows Layout.times f.legs times
  pub decisions_as : decisions' ≡ Layout.leg_rows Layout.decision f.legs decisions
  pub nodes_as : nodes' ≡ Layout.leg_rows Layout.nodes f.legs nodes
  pub left : ws' ≡ leaves (r.runs + r.refused_runs) ws
  pub promised : (i : ℕ) (leg : Planned) → get_elem? f.legs i ≡ some leg → LegPromised way (length ws) p (tile i) (tile (i + 1)) (momenta_at m f.legs i) leg
