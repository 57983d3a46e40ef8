-- `sample_text::sample_text` meets its contract: each way out is its definition's, by the tests that lead there. Assumes nothing.
use Rattle.sample_text.specs.SampleTextLaws.{gives_short, gives}
use Rattle.std.proofs.Common.{rules}
use Rattle.sample_text.proofs.sample_text.Statement.{statement}
use Rattle.sample_text.proofs.sample_text.Tie as tie

returns : tie.Need-returns-then-out-lt14
returns c = gives_short _ _ _ _ _ c.if-out-lt14.true

returns_2 : tie.Need-returns
returns_2 c =
    let put = c.put_dense.ensures in
    let sampled = c.before.before.before.before in
    let made = sampled.plan_course-c.ensures in
    gives _ _ _ _ _ sampled.if-out-lt14.false made.0 sampled.sample_course-d.ensures put.0 made.1 put.1

pub sample_text_spec : {M : Type 1} → statement M
sample_text_spec = tie.close (tie.spec returns (search rules) (search rules) (search rules) (search rules) (search rules) returns_2)
