-- `canonical::writing::put_limit` meets its contract: each way out is its definition's, by the tests that lead there. Assumes nothing.
use Rattle.canonical_laws.specs.Pieces.{num, non}
use native.Mathlib.Omega.{arith}
use Rattle.text_writer.specs.PutLaws.{puts_most}
use Rattle.canonical.specs.WritingLaws.{puts_piece}
use borrow.Author.Rules.{rules}
use Rattle.canonical.proofs.writing.put_limit.Statement.{statement}
use Rattle.canonical.proofs.writing.put_limit.Tie as tie

returns : tie.Need-returns-in-None
returns c =
    rw c.in-None.is (puts_most (omega arith) (puts_piece non c.put_all.ensures))

returns_2 : tie.Need-returns-in-Some
returns_2 c =
    rw c.in-Some.is (puts_piece (num c.in-Some.x) c.put_word.ensures)

pub put_limit_spec : {M : Type 1} → statement M
put_limit_spec = tie.close (tie.spec (λ c. search rules) (λ c κs. search rules) (λ c. search rules) (λ c κs. search rules) (λ c. search rules) returns (λ c. search rules) returns_2)
