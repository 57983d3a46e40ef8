use Rattle.std.proofs.Common.{◌≡◌}
use Rattle.common.specs.Iter.{iter}
use Rattle.reference.specs.Search as Search
use Rattle.reference.proofs.search.lengthen_repeatedly.Given as goal

-- the trials after so many turns, which are at most one more a turn
abbrev pub invariant-loop : goal.invariant-loop
invariant-loop l = (l.s ≡ iter (Search.lengthen_turn l.r l.steps l.factor) l.initial.s l.counter) × Search.Grown l.initial.s l.s l.counter
