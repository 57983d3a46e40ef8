-- The sum so far.
use Rattle.std.proofs.Common.{◌≡◌, ◌≤◌, ◌+◌, ◌*◌}
use Rattle.tile_order.specs.Below.{sum}
use Rattle.tile_order.specs.Tables.{least, longest}
use Rattle.tile_order.proofs.table.Table.floor.Given as goal

abbrev pub invariant-loop-i : goal.invariant-loop-i
invariant-loop-i l = record {
  most : l.sum ≤ l.i * longest;
  so_far : l.sum ≡ sum (λ k. least l.self.n l.self.times.now (k + 1)) l.i;
}
