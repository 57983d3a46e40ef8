-- The least of the times passed.
use Rattle.std.proofs.Common.{◌≡◌, ◌≤◌, cond}
use Rattle.std.specs.Prelude.{min, eqb}
use Rattle.common.specs.Iter.{iter}
use Rattle.tile_order.specs.Tables.{time, longest}
use Rattle.tile_order.proofs.table.Table.least.Given as goal

abbrev pub invariant-loop-j : goal.invariant-loop-j
invariant-loop-j l = record {
  most : l.m ≤ longest;
  found : l.m ≡ iter (λ k a. cond (eqb k l.i) a (min a (time l.self.n l.self.times.now k l.i))) longest l.j;
}
