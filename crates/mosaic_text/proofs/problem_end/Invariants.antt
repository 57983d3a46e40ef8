-- The problem's text does not end before position i.
use Rattle.std.proofs.Common.{◌≡◌, ◌-◌, length}
use Rattle.mosaic_text.specs.MosaicTexts.{end_from}
use Rattle.mosaic_text.proofs.problem_end.Given as goal

abbrev pub invariant-loop-i : goal.invariant-loop-i
invariant-loop-i l = end_from l.s (length l.s - 8) 8 ≡ end_from l.s (length l.s - l.i) l.i
