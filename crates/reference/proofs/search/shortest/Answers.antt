use Rattle.std.proofs.Common.{rules}
use Rattle.reference.proofs.search.shortest.Goals as goal
use native.Mathlib.Omega.{arith}
use mathlib.Core.Path.{◌≡◌}
use lib.Ieee as Ieee
use Rattle.reference_checks.specs.PromisesKept.{verified}
use Rattle.reference.specs.Search as Search
use Rattle.reference.specs.SearchLaws.{shortest_samples, shortest_verified}

pub lengthen_repeatedly-doubled-requires : goal.lengthen_repeatedly-doubled-requires
lengthen_repeatedly-doubled-requires c = rw c.initial_trials.ensures (search rules, (search rules, record { trials = omega arith; samples = omega arith }))

pub bisect_repeatedly-bisected-requires : goal.bisect_repeatedly-bisected-requires
bisect_repeatedly-bisected-requires c = let a = rw c.initial_trials.ensures at c.lengthen_repeatedly-doubled.ensures.1.trials in let b = rw c.initial_trials.ensures at c.lengthen_repeatedly-doubled.ensures.1.samples in (search rules, (search rules, record { trials = omega (arith, a); samples = omega (arith, b) }))

pub finish-requires : goal.finish-requires
finish-requires c = let a = rw c.initial_trials.ensures at c.lengthen_repeatedly-doubled.ensures.1.trials in let b = rw c.initial_trials.ensures at c.lengthen_repeatedly-doubled.ensures.1.samples in (search rules, (search rules, (omega (arith, a, c.bisect_repeatedly-bisected.ensures.1.trials), omega (arith, b, c.bisect_repeatedly-bisected.ensures.1.samples))))

pub returns : goal.returns
unfolding Search.shortest Search.coarse_trials Ieee.of_bits
returns c = let e : c.finish.result ≡ Search.shortest c.args.r c.args.coarse = rw (c.finish.ensures.0, c.bisect_repeatedly-bisected.ensures.0, c.lengthen_repeatedly-doubled.ensures.0, c.initial_trials.ensures) in record { is = e; trials = c.finish.ensures.1; samples = rw e (shortest_samples c.args.r c.args.coarse); promised = λ g. verified _ (rw e (shortest_verified c.args.r c.args.coarse (rw e at g))) }
