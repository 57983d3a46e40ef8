use Rattle.std.proofs.Common.{refl}
use Rattle.samples.specs.Rows.{row}
use Rattle.samples.proofs.rows.row.Goals as goal

pub returns : goal.returns
unfolding row
returns c = refl
