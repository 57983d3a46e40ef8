-- `controls::row_fits` meets its contract: each way out is a case of the definition, told by the tests on the way. Assumes nothing.
use borrow.Author.Tests.{le-leb, lt-leb}
use Rattle.controls.specs.Controls as Controls
use mathlib.Core.Path.{sym, ◌∙◌}
use Rattle.control_rows.specs.Parts as Parts
use borrow.Author.Rules.{rules}
use Rattle.controls.proofs.row_fits.Statement.{statement}
use Rattle.controls.proofs.row_fits.Tie as tie

returns : tie.Need-returns-then-r-gt-MAX_WHEELS
unfolding Controls.row_fits_value Parts.width
returns c = rw (lt-leb _ _ c.if-r-gt-MAX_WHEELS.true)

returns_2 : tie.Need-returns-then-r-gt-MAX_THRUSTERS
unfolding Controls.row_fits_value Parts.width
returns_2 c = rw (le-leb _ _ c.if-r-gt-MAX_WHEELS.false, lt-leb _ _ c.if-r-gt-MAX_THRUSTERS.true)

returns_3 : tie.Need-returns-then-is_bare
unfolding Controls.row_fits_value Parts.width
returns_3 c =
    let if1 = c.if-r-gt-MAX_WHEELS in
    rw (le-leb _ _ if1.false, le-leb _ _ c.if-r-gt-MAX_THRUSTERS.false, sym c.is_bare.ensures ∙ c.if-is_bare.true)

returns-4 : tie.Need-returns
unfolding Controls.row_fits_value Parts.width
returns-4 c =
    rw (le-leb _ _ c.if-r-gt-MAX_WHEELS.false, le-leb _ _ c.if-r-gt-MAX_THRUSTERS.false, sym c.is_bare.ensures ∙ c.if-is_bare.false)

pub row_fits_spec : {M : Type 1} → statement M
row_fits_spec = tie.close (tie.spec returns returns_2 (λ c κs. search rules) returns_3 (λ c. search rules) (λ c. search rules) returns-4)
