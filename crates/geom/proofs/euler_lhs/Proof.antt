-- `euler_lhs` puts its calls together as the definition does. Assumes nothing.
use borrow.Author.Rules.{rules}
use Rattle.geom.proofs.euler_lhs.Statement.{statement}
use Rattle.geom.proofs.euler_lhs.Tie as tie

returns : tie.Need-returns
returns c =
    let apply-tensor = c.apply_tensor in
    rw (
      c.add3-2.ensures,
      c.cross.ensures,
      c.add3.ensures,
      c.apply_tensor-2.ensures,
      apply-tensor.ensures,
    )

pub euler_lhs_spec : {M : Type 1} → statement M
euler_lhs_spec =
    tie.close
    (tie.spec
    (λ c κs. search rules) (λ c κs. search rules) (λ c κs. search rules) (λ c κs. search rules) (λ c κs. search rules) returns)
