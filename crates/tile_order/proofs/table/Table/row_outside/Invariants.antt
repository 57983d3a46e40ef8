-- The times passed are not outside.
use Rattle.std.proofs.Common.{◌≡◌, false}
use Rattle.tile_order.specs.Below.{any}
use Rattle.tile_order.specs.Tables.{outside}
use Rattle.tile_order.proofs.table.Table.row_outside.Given as goal

abbrev pub invariant-loop-j : goal.invariant-loop-j
invariant-loop-j l = false ≡ any (outside l.self.n l.self.times.now l.i) l.j
