use Rattle.sample_text.specs.SampleTexts.{answer, headed}
use Rattle.sample_text.proofs.put_dense.Goals as goal

pub returns-in-Err : goal.returns-in-Err
unfolding answer headed
returns-in-Err c = (rw c.in-Err.is, rw (c.put_numbers.ensures, c.float_of-in-Err.ensures, c.float_of.ensures, c.in-Err.is))

pub returns-in-Ok : goal.returns-in-Ok
unfolding answer headed
returns-in-Ok c = (rw c.in-Ok.is, rw (c.put_numbers-in-Ok.ensures, c.numbers_of-v.ensures, c.in-Ok.is))
