-- `forward::reconstruct_under` meets its contract: a refused check begins no run; an admitted problem has what a run asks for (`admitted`).
use Rattle.forward.specs.Reconstruct as Reconstruct
use Rattle.forward.specs.ReconstructLaws.{admitted}
use native.Mathlib.Omega.{arith}
use Rattle.forward.proofs.reconstruct_under.Goals as goal

pub run_under-requires : goal.run_under-requires
run_under-requires c = let a = admitted _ c.admit-checked.ensures c.in-Ok.is in (a.sized, a.narrow)

pub returns-in-Err : goal.returns-in-Err
unfolding Reconstruct.reconstruct_under
returns-in-Err c =
    let admit = c.admit-checked in
    rw (← admit.ensures, c.in-Err.is, c.refused_run.ensures)

pub returns-in-Ok : goal.returns-in-Ok
unfolding Reconstruct.reconstruct_under
returns-in-Ok c =
    let admit = c.admit-checked in
    rw (← admit.ensures, c.in-Ok.is, c.run_under.ensures)
