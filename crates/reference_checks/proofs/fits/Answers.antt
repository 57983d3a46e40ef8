use Rattle.reference_checks.proofs.fits.Goals as goal

pub returns : goal.returns
returns c = rw (c.abs.ensures, c.is_positive.ensures)
