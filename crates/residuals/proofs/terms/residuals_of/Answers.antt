-- `residuals::terms::residuals_of` meets its contract: the run into rows, and their residuals. Assumes nothing.
use mathlib.Core.Path.{◌≡◌, refl, sym, ap, ◌∙◌}
use native.Mathlib.Omega.{arith}
use lib.Ieee as Ieee
use Rattle.common.specs.IterLaws.{iter_none}
use Rattle.actuators.specs.MapLaws.{sized_counts}
use Rattle.residuals.specs.BeginLaws.{told_refused, told_going}
use Rattle.residuals.proofs.terms.residuals_of.Goals as goal

pub of_rows-requires : goal.of_rows-requires
unfolding Ieee.of_bits
of_rows-requires c =
    let pre = c.requires in (
      rw c.target_of.ensures (record { wheels = (sized_counts _ pre.0).0; numbers = omega (arith, pre.1) }),
      record {
        sums = record { few = omega arith; long = c.run_into-w.ensures.1; energy = iter_none _ _; smooth = iter_none _ _ };
        kept = λ p j b. absurd (omega arith);
      },
    )

pub returns-in-Err : goal.returns-in-Err
returns-in-Err c = c.refused_residuals.ensures ∙ told_refused _ _ _ _ c.run_into-w.ensures.0 c.in-Err.is

pub returns-in-Ok : goal.returns-in-Ok
returns-in-Ok c =
    let enum_told = c.in-Ok in
    let target-of = c.target_of in
    rw (c.of_rows.ensures, target-of.ensures) (told_going _ _ _ _ c.run_into-w.ensures.0 enum_told.is)
