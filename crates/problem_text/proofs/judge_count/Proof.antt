-- `problem_text::judge_count` meets its contract: each way out is its definition's, by the tests that lead there. Assumes nothing.
use borrow.Author.Tests.{eq-eqb, ne_eqb}
use Rattle.problem_text.specs.Reader.{judge_count}
use borrow.Author.Rules.{rules}
use Rattle.problem_text.proofs.judge_count.Statement.{statement}
use Rattle.problem_text.proofs.judge_count.Tie as tie

returns : tie.Need-returns-in-Err
unfolding judge_count
returns c = simp c.in-Err.is

returns_2 : tie.Need-returns-then-row-actuators
unfolding judge_count
returns_2 c = simp (c.in-Ok.is, eq-eqb _ _ c.if-row-actuators.true)

returns_3 : tie.Need-returns-else-row-actuators
unfolding judge_count
returns_3 c = simp (c.in-Ok.is, ne_eqb _ _ c.if-row-actuators.false) c.nothing.ensures

pub judge_count_spec : {M : Type 1} → statement M
judge_count_spec = tie.close (tie.spec (search rules) (search rules) (search rules) (search rules) returns returns_2 returns_3)
