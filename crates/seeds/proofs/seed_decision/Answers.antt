use Rattle.std.proofs.Common.{refl}
use Rattle.std.specs.Float.Ieee as Ieee
use Rattle.seeds.specs.Seeds as Seeds
use Rattle.seeds.proofs.seed_decision.Goals as goal

pub returns-clause-z_value : goal.returns-clause-z_value
unfolding Seeds.seed_decision Seeds.allocated Ieee.of_bits
returns-clause-z_value c = rw (c.project_rows-projected.ensures, c.allocate_rows-rows.ensures) refl

pub returns-clause-held_value : goal.returns-clause-held_value
unfolding Seeds.seed_held Seeds.allocated Ieee.of_bits
returns-clause-held_value c = rw (c.held_counts-held.ensures, c.allocate_rows-rows.ensures) refl
