-- s * s is not above and (s + 1)^2 is, so s is the root (`between`); the largest word by `top_root`.
use Rattle.wide.proofs.Digits.{between, top_root}
use Rattle.wide.proofs.Products.{is_above, not_above}
use Rattle.wide.proofs.isqrt.is_root.Goals as goal

pub returns-then-s-eq18446744073709551615 : goal.returns-then-s-eq18446744073709551615
returns-then-s-eq18446744073709551615 c t =
    top_root c.args.hi c.args.lo _ c.ranges.hi.fits c.ranges.lo.fits c.if-s-eq18446744073709551615.true (not_above _ _ _ c.above.ensures c.if-above.false)

pub returns-else-s-eq18446744073709551615 : goal.returns-else-s-eq18446744073709551615
returns-else-s-eq18446744073709551615 c t =
    between _ _ (not_above _ _ _ c.above.ensures c.if-above.false) (is_above _ _ _ c.above-else-s-eq18446744073709551615.ensures t)
