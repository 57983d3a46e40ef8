-- `angles::series::sine_step` meets its contract: a term that is zero changes nothing.
use Rattle.std.proofs.Common.{arith, rules}
use Rattle.angles.proofs.Leasts.{zero_below}
use Rattle.angles.proofs.Stages.{stays}
use Rattle.angles.proofs.series.sine_step.Statement.{statement}
use Rattle.angles.proofs.series.sine_step.Tie as tie

returns : tie.Need-returns-then-u-sine_least
returns c = let s = c.before.before in stays 1 s.args.u s.args.j s.args.p s.requires.3 (zero_below 1 s.args.u s.args.j (omega arith) s.requires.0 (omega (arith, c.sine_least.ensures)))

pub sine_step_spec : {M : Type 1} → statement M
sine_step_spec = tie.close (tie.spec (λ c κs. search rules) (λ c κs. search rules) returns (λ c. search rules))
