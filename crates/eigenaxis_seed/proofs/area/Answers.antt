-- `area` meets its contract: `area_small` bounds k (16 - k) for k up to 8, so that the product and the cast lose nothing.
use Rattle.eigenaxis_seed.specs.ShapeLaws.{area_small}
use native.Mathlib.Omega.{arith}
use Rattle.eigenaxis_seed.proofs.area.Goals as goal

pub overflow_mul-result : goal.overflow_mul-result
overflow_mul-result c = omega (arith, area_small _ c.requires)

pub overflow_cast-result : goal.overflow_cast-result
overflow_cast-result c = omega (arith, area_small _ c.requires)

pub returns-in-Fastest : goal.returns-in-Fastest
returns-in-Fastest c = rw c.in-Fastest.is
