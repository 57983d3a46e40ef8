-- `mosaic::check_count` meets its contract: too few, too many or neither: two comparisons, and a law for each of the three.
use Rattle.mosaic.proofs.Steps.{count_few, count_many, count_fits}
use Rattle.mosaic.proofs.check_count.Goals as goal

pub returns-then-tiles-lt2 : goal.returns-then-tiles-lt2
returns-then-tiles-lt2 c = count_few _ c.if-tiles-lt2.true

pub returns-then-tiles-gt64 : goal.returns-then-tiles-gt64
returns-then-tiles-gt64 c = count_many _ c.if-tiles-lt2.false c.if-tiles-gt64.true

pub returns : goal.returns
returns c = count_fits _ c.if-tiles-lt2.false c.if-tiles-gt64.false
