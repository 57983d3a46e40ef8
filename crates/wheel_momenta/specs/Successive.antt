-- What one slew hands to the next: the momenta that a path ends with, and a problem that starts with given ones. Definitions only.
use Rattle.problem.specs.declared.Momenta.{Momenta}
use Rattle.problem.specs.declared.Problem.{Problem}
use Rattle.forward.specs.Runs.{node_at}
use Rattle.planner.specs.declared.Path.{Path}

-- the momenta of node 16, one a wheel
abbrev pub last_momenta : Path → Momenta
last_momenta path = record { count = path.wheels; at = (node_at path.nodes 16).hw }

-- the problem p, its wheels starting with the momenta m
abbrev pub with_momenta : Problem → Momenta → Problem
with_momenta p m = record {
  q0 = p.q0;
  qf = p.qf;
  inertia = p.inertia;
  torque_limit = p.torque_limit;
  slew = p.slew;
  weights = p.weights;
  norm_tolerance = p.norm_tolerance;
  tie_tolerance = p.tie_tolerance;
  actuators = p.actuators;
  momenta = m;
}
