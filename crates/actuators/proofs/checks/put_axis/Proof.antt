-- `actuators::checks::put_axis` meets its contract: each store is one of the definition's. Assumes nothing.
use borrow.Author.Rules.{rules}
use native.Mathlib.Omega.{arith}
use lib.ListN.{length-set}
use Rattle.actuators.proofs.checks.put_axis.Statement.{statement}
use Rattle.actuators.proofs.checks.put_axis.Tie as tie

slice-write-axes-2 : tie.Need-bounds-axes-k-2
slice-write-axes-2 c = simp length-set (omega arith)

slice-write-axes-3 : tie.Need-bounds-axes-k-3
slice-write-axes-3 c = simp length-set (omega arith)

pub put_axis_spec : {M : Type 1} → statement M
put_axis_spec =
    tie.close
    (tie.spec
    (λ c. search rules) (λ c. search rules) (λ c. search rules) (λ c. search rules) (λ c. search rules) (λ c. search rules) slice-write-axes-2
    (λ c. search rules) (λ c. search rules) (λ c. search rules) slice-write-axes-3 (λ c. search rules) (λ c. search rules))
