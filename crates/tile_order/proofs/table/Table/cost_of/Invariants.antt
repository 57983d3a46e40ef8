-- The sum so far.
use Rattle.std.proofs.Common.{◌≡◌, ◌≤◌, ◌*◌, ◌^◌}
use Rattle.tile_order.specs.Orders.{legs}
use Rattle.tile_order.proofs.table.Table.cost_of.Given as goal

abbrev pub invariant-loop-i : goal.invariant-loop-i
invariant-loop-i l = record {
  most : l.sum ≤ l.i * 2 ^ 32;
  so_far : l.sum ≡ legs l.self.n l.self.times.now l.order l.i;
}
