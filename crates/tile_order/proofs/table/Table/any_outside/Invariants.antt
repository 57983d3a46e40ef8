-- No time of the rows passed is outside.
use Rattle.std.proofs.Common.{◌≡◌, false}
use Rattle.tile_order.specs.Below.{any}
use Rattle.tile_order.specs.Tables.{outside}
use Rattle.tile_order.proofs.table.Table.any_outside.Given as goal

abbrev pub invariant-loop-i : goal.invariant-loop-i
invariant-loop-i l = false ≡ any (λ k. any (outside l.self.n l.self.times.now k) l.self.n) l.i
