-- `residuals::residuals` meets its contract: a refused check begins no run; an admitted problem has what a run asks for (`admitted`).
use Rattle.forward.specs.ReconstructLaws.{admitted}
use Rattle.residuals.specs.MeasuredResiduals as MeasuredResiduals
use Rattle.residuals.proofs.residuals.Goals as goal

pub residuals_of-requires : goal.residuals_of-requires
residuals_of-requires c = let a = admitted _ c.admit-checked.ensures c.in-Ok.is in (a.sized, a.narrow)

pub returns-in-Err : goal.returns-in-Err
unfolding MeasuredResiduals.residuals
returns-in-Err c =
    let admit = c.admit-checked in
    rw (← admit.ensures, c.in-Err.is, c.refused_residuals.ensures)

pub returns-in-Ok : goal.returns-in-Ok
unfolding MeasuredResiduals.residuals
returns-in-Ok c =
    let admit = c.admit-checked in
    rw (← admit.ensures, c.in-Ok.is, c.residuals_of.ensures)
