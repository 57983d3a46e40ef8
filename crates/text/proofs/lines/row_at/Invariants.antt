-- The row so far, read on, is the whole row.
use Rattle.std.proofs.Common.{◌≡◌, ◌-◌, ◌≤◌, length}
use Rattle.text.specs.Forms.{loose}
use Rattle.text.specs.Lines.{row_from, row_at}
use Rattle.text.proofs.lines.row_at.Given as goal

abbrev pub invariant-loop-k : goal.invariant-loop-k
invariant-loop-k l = record {
  count : l.r.count ≡ l.k;
  within : l.r.at ≤ length l.s;
  is : row_at loose l.s l.at ≡ row_from loose l.s (length l.s - l.k) l.r;
}
