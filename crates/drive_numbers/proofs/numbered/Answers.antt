use Rattle.std.proofs.Common.{◌∙◌}
use Rattle.common.specs.Refusals.{refusal}
use Rattle.drive_numbers.specs.Drive.{wholes, parts, numbered}
use Rattle.drive_numbers.proofs.Kept.{row_or}
use Rattle.drive_numbers.proofs.numbered.Goals as goal

pub returns : goal.returns
unfolding numbered
returns c = rw c.row.ensures at c.ok_or.ensures.value ∙ row_or (wholes (parts c.args.s)) (refusal 24 c.args.index)
