-- The entries before k have one more turn than m, the others m.
use Rattle.std.proofs.Common.{suc}
use Rattle.reach_avoid.specs.TableInner.{turns_at_value}
use Rattle.reach_avoid.specs.TableLaws.{Stored}
use Rattle.reach_avoid.proofs.sweep.Given as goal

abbrev pub invariant-loop-k : goal.invariant-loop-k
invariant-loop-k l = Stored (turns_at_value (suc l.m)) (turns_at_value l.m) l.k l.t
