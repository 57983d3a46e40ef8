-- A call of `turn` leaves one tile fewer than the `visit` that makes it, and more than the `visit` that it makes. Up to tile `low` the loop of `visit` has done what
-- the definition does tile after tile, and what is searched is as it was.
use Rattle.std.proofs.Common.{◌≡◌, false, ◌+◌, ◌-◌, ◌*◌}
use Rattle.common.specs.Iter.{iter}
use Rattle.tile_order.specs.Inner.{Stands}
use Rattle.tile_order.specs.Search as Rules
use Rattle.tile_order.proofs.search.Search.+turn_visit.Given as goal

abbrev pub decreases-turn : goal.decreases-turn
decreases-turn l = l.left * 2 + 1

abbrev pub decreases-visit : goal.decreases-visit
decreases-visit l = l.left * 2

abbrev pub invariant-visit-loop-self : goal.invariant-visit-loop-self
invariant-visit-loop-self l = let s = l.initial.self in record {
  stands : Stands s.table.n s.path (l.done + 1) l.low;
  table_is : l.self.table ≡ s.table;
  budget_is : l.self.budget ≡ s.budget;
  path_is : l.self.path ≡ s.path;
  after_is : l.self.after ≡ s.after;
  so_far : Rules.progress l.self.best l.self.bound l.self.placed false
      ≡ iter (Rules.turn (Rules.visit s.table.n s.budget s.table.times.now (l.left - 1) (l.done + 1)) s.table.n s.budget s.table.times.now s.path l.done l.cost) (Rules.progress s.best s.bound s.placed false) l.low;
}

abbrev pub decreases-visit-loop-self : goal.decreases-visit-loop-self
decreases-visit-loop-self l = l.self.table.n - l.low
