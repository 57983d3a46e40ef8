-- `held_counts::part_limit` meets its contract: each way out is a case of the definition, told by the tests on the way. Assumes nothing.
use borrow.Author.Tests.{lt-ltb, le-ltb}
use borrow.Author.Rules.{rules}
use Rattle.held_counts.proofs.part_limit.Statement.{statement}
use Rattle.held_counts.proofs.part_limit.Tie as tie

returns : tie.Need-returns-then-i-nw
returns c = rw (lt-ltb _ _ c.if-i-nw.true)

returns_2 : tie.Need-returns-then-i-nw-2
returns_2 c = rw (le-ltb _ _ c.if-i-nw.false, lt-ltb _ _ c.if-i-nw-2.true)

returns_3 : tie.Need-returns
returns_3 c = rw (le-ltb _ _ c.if-i-nw.false, le-ltb _ _ c.if-i-nw-2.false, c.gimbal_rate.ensures)

pub part_limit_spec : {M : Type 1} → statement M
part_limit_spec =
    tie.close
    (tie.spec
    (λ c. search rules) (λ c. search rules) returns (λ c. search rules) (λ c. search rules) (λ c. search rules) returns_2 (λ c κs. search rules)
    returns_3)
