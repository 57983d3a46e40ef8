use Rattle.reference_checks.proofs.in_box.Goals as goal
use Rattle.reference_checks.specs.Checks as Checks

pub returns : goal.returns
unfolding Checks.in_box
returns c = rw (c.fits-3.ensures, c.fits-2.ensures, c.fits.ensures)
