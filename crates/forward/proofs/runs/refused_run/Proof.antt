use native.Mathlib.Omega.{arith}
use borrow.Author.Rules.{rules}
use Rattle.forward.proofs.runs.refused_run.Statement.{statement}
use Rattle.forward.proofs.runs.refused_run.Tie as tie

returns : tie.Need-returns
returns c = rw c.blank_node-blank.ensures

pub refused_run_spec : {M : Type 1} → statement M
refused_run_spec = tie.close (tie.spec (λ c κs. search rules) returns)
