-- `problem::tolerance_fits` meets its contract: each test is the definition's. Assumes nothing.
use borrow.Author.Rules.{rules}
use mathlib.Core.Path.{refl}
use lib.Ieee as Ieee
use Rattle.problem.proofs.tolerance_fits.Statement.{statement}
use Rattle.problem.proofs.tolerance_fits.Tie as tie

returns : tie.Need-returns
unfolding Ieee.of_bits
returns c = refl

pub tolerance_fits_spec : {M : Type 1} → statement M
tolerance_fits_spec = tie.close (tie.spec returns)
