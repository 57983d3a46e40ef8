-- What the code makes of a leg and of a whole mosaic is what the definitions say. Assumes nothing.
use Rattle.std.specs.Prelude.{ℕ, ◌≡◌, refl, List, length, Float, Option, Some, None}
use Rattle.geom.specs.declared.Quat.{Quat}
use Rattle.problem.specs.declared.Problem.{Problem}
use Rattle.planner.specs.Plans as Plans
use Rattle.planner.specs.PlanLaws.{leaves_none}
use Rattle.planner.specs.declared.Planned.{Planned}
use Rattle.mosaic.specs.Mosaics.{start, halted, tile_of}
use Rattle.mosaic.specs.Turns.{Advances}
use Rattle.mosaic.specs.Ways.{planner_by}
use Rattle.mosaic.specs.declared.Advanced.{Advanced}
use Rattle.mosaic.specs.declared.Cursor.{Cursor}
use Rattle.mosaic.specs.declared.ways.Way.{Way}
use Rattle.whole_mosaic.specs.Filled.{Filled}
use Rattle.whole_mosaic.specs.Layout as Layout
use Rattle.export_mosaic.specs.Cursors.{turn_by_value, whole_by_value, Fills}
use Rattle.common.specs.Refusals.{refusal}

-- ---- a leg
module _ (p : Problem) (c : Cursor) (from to : Quat) {a : Option Way} {ws : List Float} where
  pub turn_by : {way : Way} {r : Advanced} {exit : List Float} → Some way ≡ a → Advances way p c from to ws r exit
      → (r ≡ turn_by_value a p c from to (length ws)) × (exit ≡ Plans.leaves r.planned.runs ws)
  turn_by e t = rw (← e) ((λ i. record { cursor = t.cursor i; planned = t.planned i }), t.left)

  pub turn_none : {x : Planned} → None ≡ a → x ≡ Plans.refused (refusal 99 0) 0
      → (record { cursor = c; planned = x } ≡ turn_by_value a p c from to (length ws)) × (ws ≡ Plans.leaves x.runs ws)
  turn_none e h = rw (← e, h) (refl, leaves_none ws)

-- ---- the whole
module _ (p : Problem) (tiles : List (List Float)) {a : Option Way} {r : Cursor} {counts : List (List ℕ)} {times decisions : List (List Float)}
    {nodes : List (List (List Float))} {ws : List Float} where
  pub fills_by : {way : Way} {counts' : List (List ℕ)} {times' decisions' : List (List Float)} {nodes' : List (List (List Float))} {ws' : List Float}
      → Some way ≡ a
      → Filled (Layout.lent (planner_by way (length ws)) p tiles p.momenta (length counts) (length times) (length decisions) (length nodes))
      way p (tile_of tiles) p.momenta r counts counts' times times' decisions decisions' nodes nodes' ws ws'
      → Fills (whole_by_value a p tiles (length counts) (length times) (length decisions) (length nodes) (length ws))
      r counts counts' times times' decisions decisions' nodes nodes' ws ws'
  fills_by e f = rw (← e) (record {
    cursor = f.cursor;
    counts_as = f.counts_as;
    times_as = f.times_as;
    decisions_as = f.decisions_as;
    nodes_as = f.nodes_as;
    left = rw f.cursor at f.left;
  })

  pub fills_not : {c : Cursor} → None ≡ a → c ≡ start p.momenta → r ≡ halted c (refusal 99 0) 0
      → Fills (whole_by_value a p tiles (length counts) (length times) (length decisions) (length nodes) (length ws))
      r counts counts times times decisions decisions nodes nodes ws ws
  fills_not e f g = rw (← e) (record {
    cursor = rw (g, f) refl;
    counts_as = refl;
    times_as = refl;
    decisions_as = refl;
    nodes_as = refl;
    left = leaves_none ws;
  })
