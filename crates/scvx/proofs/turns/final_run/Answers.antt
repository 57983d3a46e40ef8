use Rattle.std.proofs.Common.{◌∙◌}
use Rattle.scvx.specs.StepLaws.{final_run_by_law}
use Rattle.scvx.proofs.turns.final_run.Goals as goal

pub returns-in-Err : goal.returns-in-Err
returns-in-Err c = c.not_found.ensures ∙ final_run_by_law c.args.p c.args.s c.run_of-run.ensures c.in-Err.is

pub returns-in-Ok : goal.returns-in-Ok
returns-in-Ok c = final_run_by_law c.args.p c.args.s c.run_of-run.ensures c.in-Ok.is
