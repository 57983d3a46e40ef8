-- After j turns the first j nodes have their rows.
use Rattle.residuals.specs.Residuals as Residuals
use Rattle.residuals.specs.PointLaws.{Rows}
use Rattle.forward.specs.Rows.{nodes_from}
use Rattle.residuals.proofs.terms.pointed.Given as goal

abbrev pub invariant-loop-j : goal.invariant-loop-j
invariant-loop-j l = Rows l.scale (nodes_from l.nodes) l.qf l.fn.r (Residuals.pointing l.r) l.j
