-- `forward::runs::run_under` meets its contract: the run into rows, and its nodes. Assumes nothing.
use mathlib.Core.Path.{refl, ◌∙◌}
use Rattle.forward.specs.PartLaws.{told}
use Rattle.forward.proofs.runs.run_under.Goals as goal

pub returns-in-Err : goal.returns-in-Err
unfolding told
returns-in-Err c =
    let run-into = c.run_into-w in
    c.refused_run.ensures ∙ (rw c.in-Err.is at run-into.ensures.0)

pub returns-in-Ok : goal.returns-in-Ok
unfolding told
returns-in-Ok c =
    let run-into = c.run_into-w in
    let enum_told = c.in-Ok in
    rw (c.sqrt.ensures, c.nodes_in-nodes.ensures) (rw enum_told.is at run-into.ensures.0)
