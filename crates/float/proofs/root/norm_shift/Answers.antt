-- `shift_ok` says that the leading zeros less 11 bring the top bit to bit 52.
use Rattle.float.proofs.Shapes.{shift_ok}
use Rattle.float.proofs.root.norm_shift.Goals as goal

pub overflow_sub-result : goal.overflow_sub-result
overflow_sub-result c = (shift_ok c.args.v c.requires.0 c.requires.1 c.ranges.v.fits).0

pub returns : goal.returns
returns c = (shift_ok c.args.v c.requires.0 c.requires.1 c.ranges.v.fits).1
