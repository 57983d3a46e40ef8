use Rattle.std.proofs.Common.{◌≡◌}
use Rattle.common.specs.Iter.{iter}
use Rattle.kept_rows.specs.GatherLaws.{move_turn}
use Rattle.kept_rows.proofs.move_rows.Given as goal

-- each turn of the loop is a turn of the definition
abbrev pub invariant-loop-i : goal.invariant-loop-i
invariant-loop-i l = l.r ≡ iter (move_turn l.row l.place) l.initial.r l.i
