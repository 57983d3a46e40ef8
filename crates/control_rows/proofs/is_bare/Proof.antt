-- `control_rows::is_bare` meets its contract: each test is the definition's. Assumes nothing.
use borrow.Author.Rules.{rules}
use Rattle.control_rows.proofs.is_bare.Statement.{statement}
use Rattle.control_rows.proofs.is_bare.Tie as tie

returns : tie.Need-returns
returns c = rw c.no_cmgs.ensures

pub is_bare_spec : {M : Type 1} → statement M
is_bare_spec = tie.close (tie.spec (λ c κs. search rules) returns)
