-- The lines begun before byte b.
use Rattle.std.proofs.Common.{◌≡◌, ◌+◌, ◌≤◌, get_or}
use Rattle.common.specs.Iter.{iter}
use Rattle.mosaic_text.specs.MosaicTexts.{line_turn}
use Rattle.mosaic_text.proofs.line_of.Given as goal

abbrev pub invariant-loop-k : goal.invariant-loop-k
invariant-loop-k l = record { is : l.line ≡ iter (λ k line. line_turn line l.at k (get_or l.s k 0)) 1 l.k; low : l.line ≤ l.k + 1 }
