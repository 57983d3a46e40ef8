-- What is printed of a mosaic's text, byte for byte, over any planner of one slew: a leg at a time, and whole. Definitions only.
use Rattle.std.specs.Prelude.{ℕ, ◌+◌, ◌-◌, ◌≡◌, Bool, true, false, List, [], ◌++◌, Float, Ok, Err}
use Rattle.common.specs.Iter.{iter}
use Rattle.planner.specs.Plans as Plans
use Rattle.planner.specs.declared.Planned.{Planned}
use Rattle.text_writer.specs.Puts.{Puts}
use Rattle.text_writer.specs.Texts as Texts
use Rattle.refusal_text.specs.Sentences.{explain_plan}
use Rattle.plan_text.specs.PlanTexts as PlanTexts
use Rattle.mosaic.specs.Mosaics as Mosaics
use Rattle.mosaic.specs.Mosaics.{Planner}
use Rattle.mosaic.specs.Ways.{planner_by}
use Rattle.mosaic.specs.declared.Cursor.{Cursor}
use Rattle.mosaic.specs.declared.ways.Way.{Way}
use Rattle.mosaic_text.specs.TileLines.{tile_at}
use Rattle.mosaic_text.specs.MosaicTexts.{read_mosaic}
use Rattle.mosaic_text.specs.declared.ReadMosaic.{ReadMosaic}
use Rattle.mosaic_answer.specs.LegLines.{heading, total}
use Rattle.mosaic_answer.specs.declared.Leg.{Leg}
use Rattle.common.specs.Refusals.{Fate}

-- ---- the mosaic of a text: 21 first, then 23

abbrev pub with_fate : ReadMosaic → Fate → ReadMosaic
with_fate m fate = record { fate = fate; problem = m.problem; count = m.count; tiles = m.tiles }

abbrev pub counted_by : Fate → ReadMosaic → ReadMosaic
counted_by (Err why) m = m
counted_by (Ok _) m = with_fate m (Mosaics.count_fate m.count)

unfoldable pub counted : List ℕ → ReadMosaic
counted text = counted_by (read_mosaic text).fate (read_mosaic text)

-- ---- a leg: from the tile of the cursor's index to the next one

abbrev pub planned : Planner → ReadMosaic → Cursor → Planned
planned plan m c = Mosaics.planned plan m.problem c (tile_at m.tiles c.index) (tile_at m.tiles (c.index + 1))

abbrev pub after : Planner → ReadMosaic → Cursor → Cursor
after plan m c = Mosaics.next plan m.problem c (tile_at m.tiles c.index) (tile_at m.tiles (c.index + 1))

-- for standard output: its heading, then what `slew` prints
abbrev pub leg_text : Planner → ReadMosaic → Cursor → List ℕ
leg_text plan m c = heading c.index ++ PlanTexts.printed (planned plan m c)

-- ---- the whole of standard output

-- the sums of the legs that stand
abbrev pub total_text : Cursor → List ℕ
total_text c = total c.index c.duration c.runs

-- the cursor before leg k, from the problem's own momenta; after a refusal it stays
unfoldable pub cursor_at : Planner → ReadMosaic → ℕ → Cursor
cursor_at plan m k = iter (λ _ c. after plan m c) (Mosaics.start m.problem.momenta) k

abbrev pub is_refused : Fate → Bool
is_refused (Err why) = true
is_refused (Ok _) = false

-- leg k, where none before it was refused
abbrev pub leg_by : Fate → List ℕ → List ℕ
leg_by (Err why) text = []
leg_by (Ok _) text = text

unfoldable pub leg_at : Planner → ReadMosaic → ℕ → List ℕ
leg_at plan m k = leg_by (cursor_at plan m k).fate (leg_text plan m (cursor_at plan m k))

-- the legs in turn, one less than there are tiles, then the sums
unfoldable pub legs_text : Planner → ReadMosaic → List ℕ
legs_text plan m = Texts.times (leg_at plan m) (m.count - 1) ++ total_text (cursor_at plan m (m.count - 1))

-- a text that is refused, with 21 or 23, is answered as `slew` answers one
abbrev pub answer_by : Fate → Planner → ReadMosaic → List ℕ
answer_by (Err why) plan m = Texts.refused why.number why.place 0
answer_by (Ok _) plan m = legs_text plan m

unfoldable pub answer : Planner → List ℕ → List ℕ
answer plan text = answer_by (counted text).fate plan (counted text)

-- what program `slew_mosaic` writes to standard output, asked to plan by a way: it lends 8,000 numbers, as `slew` does
abbrev pub slew_mosaic : Way → List ℕ → List ℕ
slew_mosaic way text = answer (planner_by way 8000) text

-- ---- a contract: the next leg is planned and written into lent buffers as far as these reach; the workspace is untouched where no run began, else every number +0
pub record Writes (plan : Planner) (m : ReadMosaic) (c : Cursor) (ws : List Float) (headed out said : List ℕ) (r : Leg) (ws' : List Float) (headed' out' said' : List ℕ) : Type 0 where
  pub moves : r.cursor ≡ after plan m c
  pub heads : Puts headed 0 (heading c.index) 27 headed' r.heading
  pub prints : Puts out 0 (PlanTexts.printed (planned plan m c)) 9970 out' r.bytes
  pub says : Puts said 0 (explain_plan (planned plan m c).fate (planned plan m c).runs) 212 said' r.said
  pub left : ws' ≡ Plans.leaves (planned plan m c).runs ws
