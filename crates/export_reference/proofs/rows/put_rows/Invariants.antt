-- `rows::put_rows`: the rows before k stand.
use Rattle.std.proofs.Common.{◌≡◌}
use Rattle.common.specs.Iter.{iter}
use Rattle.export_reference.specs.Rows.{put_row}
use Rattle.export_reference.proofs.rows.put_rows.Given as goal

abbrev pub invariant-loop-k : goal.invariant-loop-k
invariant-loop-k l = l.out ≡ iter (put_row l.r) l.initial.out l.k
