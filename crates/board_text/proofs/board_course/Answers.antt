use Rattle.board_text.specs.BoardLines.{board_course}
use Rattle.board_text.proofs.board_course.Goals as goal

pub returns : goal.returns
unfolding board_course
returns c = rw (c.drive.ensures, c.sample_course-d.ensures)
