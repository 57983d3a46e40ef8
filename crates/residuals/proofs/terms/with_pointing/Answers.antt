-- `residuals::terms::with_pointing` meets its contract: the first 16 nodes' rows, the last one's by the error at the end, and the closing terms. Assumes nothing.
use mathlib.Core.Path.{◌≡◌, refl, sym, ap, ◌∙◌}
use native.Mathlib.Omega.{arith}
use lib.Ieee as Ieee
use Rattle.residuals.specs.PointLaws.{with_refused, with_going}
use Rattle.residuals.proofs.terms.with_pointing.Goals as goal

pub pointed-fate-requires : goal.pointed-fate-requires
pointed-fate-requires c = let pre = c.requires in (pre.1.0.long, pre.1.1.kept)

pub returns-in-Err : goal.returns-in-Err
unfolding Ieee.of_bits
returns-in-Err c =
    c.refused_residuals.ensures ∙ with_refused _ _ _ _ _ _ (rw c.sqrt-scale.ensures at (rw c.in-Err.is at c.pointed-fate.ensures))

pub closing-requires : goal.closing-requires
closing-requires c = let pre = c.requires in (omega arith, (pre.0, pre.1.0))

pub returns : goal.returns
unfolding Ieee.of_bits
returns c =
    let enum_told = c.in-Ok in
    let root = c.sqrt-scale.ensures in
    rw (c.closing.ensures, c.put3.ensures, c.scale3.ensures, root)
    (with_going _ _ _ _ _ c.args.error (rw root at (rw enum_told.is at c.pointed-fate.ensures)) c.requires.1.1.end)
