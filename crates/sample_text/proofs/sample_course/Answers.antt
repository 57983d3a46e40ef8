use Rattle.sample_text.specs.SampleTexts.{sample_course}
use Rattle.sample_text.proofs.sample_course.Goals as goal

pub returns-in-Err : goal.returns-in-Err
unfolding sample_course
returns-in-Err c = rw c.in-Err.is

pub returns-in-Ok : goal.returns-in-Ok
unfolding sample_course
returns-in-Ok c = rw (c.sample_of.ensures, c.in-Ok.is)
