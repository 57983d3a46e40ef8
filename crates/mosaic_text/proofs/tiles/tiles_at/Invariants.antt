-- The lines so far, each with one tile at most.
use Rattle.std.proofs.Common.{◌≡◌, ◌≤◌}
use Rattle.common.specs.Iter.{iter}
use Rattle.mosaic_text.specs.TileLines.{turn, begun}
use Rattle.mosaic_text.specs.declared.tiles.Reading.TheVariants.{More}
use Rattle.mosaic_text.proofs.tiles.tiles_at.Given as goal

abbrev pub invariant-loop-k : goal.invariant-loop-k
invariant-loop-k l = record { is : More l.at l.t ≡ iter (turn l.s) (begun l.fn.at) l.k; low : l.t.count ≤ l.k }
