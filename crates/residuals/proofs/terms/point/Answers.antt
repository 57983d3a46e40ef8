-- `residuals::terms::point` meets its contract: a logarithm that is refused ends the rows; else three numbers are put at the node's places.
use Rattle.residuals.proofs.terms.point.Goals as goal

pub returns-in-None : goal.returns-in-None
returns-in-None c = rw c.in-None.is

pub returns-in-Some : goal.returns-in-Some
returns-in-Some c =
    let error = c.in-Some in
    rw (error.is, c.put3.ensures, c.scale3.ensures)
