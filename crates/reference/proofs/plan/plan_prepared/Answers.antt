use Rattle.std.proofs.Common.{rules}
use Rattle.reference.proofs.plan.plan_prepared.Goals as goal
use native.Mathlib.Omega.{arith}
use Rattle.reference.specs.Prepare as Prepare
use Rattle.reference.specs.SearchLaws.{times_steps}

pub verify-verdict-requires : goal.verify-verdict-requires
unfolding Prepare.with_times
verify-verdict-requires c = rw c.with_times-reference.ensures (search rules)

pub returns-in-Some : goal.returns-in-Some
unfolding Prepare.with_times
returns-in-Some c = (rw (c.in-Some.is, c.verify-verdict.ensures.is, c.with_times-reference.ensures), record { trials = omega arith; samples = omega (arith, c.verify-verdict.ensures.few); few = rw c.with_times-reference.ensures c.requires.0; steps = rw c.with_times-reference.ensures c.requires.1; promised = c.verify-verdict.ensures.promised })

pub returns-in-None : goal.returns-in-None
unfolding Prepare.with_times
returns-in-None c = (rw (c.in-None.is, c.with_times.ensures, c.shortest-found.ensures.is), record { trials = c.shortest-found.ensures.trials; samples = omega (arith, c.shortest-found.ensures.samples, times_steps c.args.r _ c.args.r.steps c.with_times.ensures); few = rw c.with_times.ensures c.requires.0; steps = rw c.with_times.ensures c.requires.1; promised = λ g. rw c.with_times.ensures (c.shortest-found.ensures.promised g) })
