use Rattle.std.proofs.Common.{sym, ◌∙◌}
use Rattle.drive_numbers.proofs.Kept.{sample_given}
use Rattle.drive_numbers.proofs.row.Goals as goal

pub returns : goal.returns
returns c =
    sample_given c.args.s (sym c.attitude.ensures ∙ c.in_ok-a.was) (sym c.vector.ensures ∙ c.in_ok-b.was) (sym c.vector-2.ensures ∙ c.in_ok-c.was) (sym c.vector-3.ensures ∙ c.in_ok-d.was)
