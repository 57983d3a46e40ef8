-- `canonical::canonical_text` meets its contract: each way out is its definition's, by the tests that lead there. Assumes nothing.
use borrow.Author.Rules.{rules}
use Rattle.canonical.specs.CanonicalLaws.{tells_short, tells}
use Rattle.canonical.proofs.canonical_text.Statement.{statement}
use Rattle.canonical.proofs.canonical_text.Tie as tie

returns : tie.Need-returns-then-out-lt4096
returns c = tells_short _ c.if-out-lt4096.true

returns_2 : tie.Need-returns
returns_2 c =
    let written = c.before.before in
    let read = written.before.before.before in
    tells _ read.read-read.ensures read.if-out-lt4096.false written.rewrite.ensures

pub canonical_text_spec : {M : Type 1} → statement M
canonical_text_spec = tie.close (tie.spec returns (search rules) (search rules) (search rules) returns_2)
