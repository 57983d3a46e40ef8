-- The table holds the fewest turns up to m.
use Rattle.reach_avoid.specs.TableInner.{Holds}
use Rattle.reach_avoid.proofs.fill.Given as goal

abbrev pub invariant-loop-m : goal.invariant-loop-m
invariant-loop-m l = Holds l.m l.t
