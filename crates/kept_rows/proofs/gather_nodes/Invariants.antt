use Rattle.std.proofs.Common.{◌+◌, ◌*◌}
use Rattle.kept_rows.specs.GatherLaws.{Upto}
use Rattle.kept_rows.proofs.gather_nodes.Given as goal

-- the rows before those of node k are gathered
abbrev pub invariant-loop-k : goal.invariant-loop-k
invariant-loop-k l = Upto 79 (6 + 4 * l.k) l.initial.r l.r
