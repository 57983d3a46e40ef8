-- `scvx::turns::conclude` meets its contract: the three cases of a status are the definition's.
use mathlib.Core.Path.{◌∙◌}
use Rattle.scvx.specs.StepLaws.{conclude_going, conclude_ended, conclude_refused}
use Rattle.scvx.proofs.turns.conclude.Goals as goal

pub returns-in-Going : goal.returns-in-Going
returns-in-Going c = c.final_run.ensures ∙ conclude_going c.args.p c.args.s c.in-Going.is

pub returns-in-Ended : goal.returns-in-Ended
returns-in-Ended c = c.final_run-in-Ended.ensures ∙ conclude_ended c.args.p c.args.s c.in-Ended.is

pub returns-in-Refused : goal.returns-in-Refused
returns-in-Refused c =
    c.not_found.ensures ∙ conclude_refused c.args.p c.args.s c.in-Refused.is
