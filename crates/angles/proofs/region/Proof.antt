-- `angles::region` meets its contract: three outcomes of the two tests, a law for each.
use Rattle.std.proofs.Common.{true, rules}
use Rattle.angles.proofs.Regions.{is_outside, is_tiny, is_inside}
use Rattle.angles.proofs.region.Statement.{statement}
use Rattle.angles.proofs.region.Tie as tie

returns : tie.Need-returns-then-is_tiny
returns c =
    let t = c.before in
    is_tiny _ _ _ t.in_range.ensures t.is_tiny.ensures t.if-in_range.true c.if-is_tiny.true

returns_2 : tie.Need-returns-else-is_tiny
returns_2 c =
    let t = c.before in
    is_inside _ _ _ t.in_range.ensures t.is_tiny.ensures t.if-in_range.true c.if-is_tiny.false

returns_3 : tie.Need-returns-else-in_range
returns_3 c = is_outside _ _ true c.in_range.ensures c.if-in_range.false

pub region_spec : {M : Type 1} → statement M
region_spec = tie.close (tie.spec (λ c κs. search rules) (λ c κs. search rules) returns returns_2 returns_3)
