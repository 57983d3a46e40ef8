-- `eigenaxis_samples::plan_eigenaxis_course` meets its contract: what was read and planned is the text's plan, and the runs are the plan's. Assumes nothing.
use Rattle.sample_text.specs.SampleTextLaws.{runs_of}
use Rattle.eigenaxis_samples.specs.CourseLaws.{course_planned}
use borrow.Author.Rules.{rules}
use Rattle.eigenaxis_samples.proofs.plan_eigenaxis_course.Statement.{statement}
use Rattle.eigenaxis_samples.proofs.plan_eigenaxis_course.Tie as tie

returns : tie.Need-returns
returns c =
    let made = c.plan_eigenaxis_read-a.ensures in
    (course_planned _ _ _ c.read-read.ensures made.0 c.alpha_of.ensures c.course_of.ensures, rw (c.course_of.ensures, runs_of) made.1)

pub plan_eigenaxis_course_spec : {M : Type 1} → statement M
plan_eigenaxis_course_spec = tie.close (tie.spec (search rules) (search rules) (search rules) (search rules) (search rules) returns)
