-- `board_text::write_numbers` meets its contract: each way out is its definition's, by the tests that lead there. Assumes nothing.
use Rattle.board_text.specs.BoardLineLaws.{steps_refused, steps_given}
use Rattle.board_text.proofs.write_numbers.Goals as goal

pub returns-in-Err : goal.returns-in-Err
returns-in-Err c = steps_refused _ _ _ _ c.board_course-b.ensures c.is_planned-sampled.ensures c.in-Err.is c.tell_refused.ensures

pub returns-in-Ok : goal.returns-in-Ok
returns-in-Ok c = steps_given _ _ _ _ c.board_course-b.ensures c.in-Ok.is c.is_last-last.ensures c.put_line-bytes.ensures
