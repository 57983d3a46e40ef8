use Rattle.drive_numbers.specs.Drive.{drive_sample}
use Rattle.drive_numbers.proofs.drive_sample.Goals as goal

pub returns : goal.returns
unfolding drive_sample
returns c = rw (← c.sample-made.ensures) c.drive.ensures
