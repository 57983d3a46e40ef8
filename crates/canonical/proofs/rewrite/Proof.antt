-- `canonical::rewrite` meets its contract: each way out is its definition's, by the tests that lead there. Assumes nothing.
use borrow.Author.Rules.{rules}
use Rattle.canonical.specs.CanonicalLaws.{refused_rewrites, going_rewrites}
use Rattle.canonical.proofs.rewrite.Statement.{statement}
use Rattle.canonical.proofs.rewrite.Tie as tie

returns : tie.Need-returns-in-Err
returns c = refused_rewrites _ _ _ _ _ c.in-Err.is

returns_2 : tie.Need-returns-in-Ok
returns_2 c =
    let written = c.before.before.before in
    going_rewrites _ _ _ _ _ _ written.in-Ok.is c.counts_fate.ensures written.write_problem-bytes.ensures

pub rewrite_spec : {M : Type 1} → statement M
rewrite_spec = tie.close (tie.spec (search rules) (search rules) (search rules) (search rules) returns (search rules) returns_2)
