-- The rows so far.
use Rattle.std.proofs.Common.{◌≡◌, ℕ, Result, Ok}
use Rattle.common.specs.Iter.{iter}
use Rattle.order_text.specs.declared.reading.Row.{Row}
use Rattle.order_text.specs.TileTexts.{table_turn}
use Rattle.order_text.proofs.reading.table_at.Given as goal

abbrev pub invariant-loop-i : goal.invariant-loop-i
invariant-loop-i l = ◌≡◌ {A = Result Row ℕ} (Ok l.c) (iter (table_turn l.s l.n) (Ok l.initial.c) l.i)
