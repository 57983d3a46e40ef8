-- `sample_text::plan_course` meets its contract: what was read and planned is the text's plan, and the runs are the plan's. Assumes nothing.
use Rattle.sample_text.specs.SampleTextLaws.{course_planned, runs_of}
use Rattle.std.proofs.Common.{rules}
use Rattle.sample_text.proofs.plan_course.Statement.{statement}
use Rattle.sample_text.proofs.plan_course.Tie as tie

returns : tie.Need-returns
returns c =
    let at-plan-read = c.before.before.before.before in
    let at_read = at-plan-read.before.before.before in
    let made = at-plan-read.plan_read-a.ensures in
    (course_planned _ _ at_read.read-read.ensures made.0 c.alpha_of.ensures c.course_of.ensures, rw (c.course_of.ensures, runs_of) made.1)

pub plan_course_spec : {M : Type 1} → statement M
plan_course_spec = tie.close (tie.spec (search rules) (search rules) (search rules) (search rules) (search rules) returns)
