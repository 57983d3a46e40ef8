-- `mosaics::print_legs`: the cursor is the one before leg k - 1, and no tile is passed.
use Rattle.std.proofs.Common.{◌≡◌, ◌-◌, ◌≤◌}
use Rattle.mosaic.specs.Ways.{planner_by}
use Rattle.mosaic_answer.specs.MosaicAnswers.{cursor_at}
use Rattle.programs.proofs.mosaics.print_legs.Given as goal

abbrev pub invariant-loop : goal.invariant-loop
invariant-loop l = (l.counter - 1 ≤ l.m.count - 1) × (l.c ≡ cursor_at (planner_by l.way 8000) l.m (l.counter - 1))
