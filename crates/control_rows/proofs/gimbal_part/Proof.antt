-- `control_rows::gimbal_part` meets its contract: each step is its definition's. Assumes nothing.
use borrow.Author.Rules.{rules}
use Rattle.control_rows.proofs.gimbal_part.Statement.{statement}
use Rattle.control_rows.proofs.gimbal_part.Tie as tie

pyramid-part-requires : tie.Need-pyramid_part-requires
pyramid-part-requires c κs =
    rw c.in-Some.is at c.requires

returns_2 : tie.Need-returns-in-Some
returns_2 c = rw c.in-Some.is c.pyramid_part.ensures

pub gimbal_part_spec : {M : Type 1} → statement M
gimbal_part_spec = tie.close (tie.spec (λ c. search rules) (λ c. search rules) pyramid-part-requires (λ c. search rules) returns_2)
