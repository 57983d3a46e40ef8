-- `export_leaves::courses::slew_sample_seed` meets its contract, by the contracts of what it calls. Assumes nothing.
use borrow.Author.Rules.{rules}
use Rattle.export_leaves.proofs.courses.slew_sample_seed.Statement.{statement}
use Rattle.export_leaves.proofs.courses.slew_sample_seed.Tie as tie

returns : tie.Need-returns
returns c = (
  rw (c.sample_seed-s.ensures, c.profile_of.ensures),
  rw (c.sample_seed-s.ensures, c.profile_of.ensures),
)

pub slew_sample_seed_spec : {M : Type 1} → statement M
slew_sample_seed_spec = tie.close (tie.spec (λ c κs. search rules) (λ c κs. search rules) returns)
