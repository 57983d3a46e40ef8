-- `sample_text::lines::write_step` meets its contract: each way out is its definition's, by the tests that lead there. Assumes nothing.
use Rattle.sample_text.specs.SampleLineLaws.{steps_refused, steps_given}
use Rattle.std.proofs.Common.{rules, rules}
use Rattle.sample_text.proofs.lines.write_step.Goals as goal

pub returns-in-Err : goal.returns-in-Err
returns-in-Err c = steps_refused _ _ _ _ c.sample_course-d.ensures c.is_planned-sampled.ensures c.in-Err.is c.tell_refused.ensures

pub returns-in-Ok : goal.returns-in-Ok
returns-in-Ok c = steps_given _ _ _ _ c.sample_course-d.ensures c.in-Ok.is c.is_last-last.ensures c.put_sample-bytes.ensures
