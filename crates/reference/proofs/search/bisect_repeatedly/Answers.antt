use Rattle.std.proofs.Common.{◌≡◌, ◌+◌, ◌≤◌, arith, rules}
use Rattle.common.specs.IterLaws.{iter_none, iter_next}
use Rattle.reference.specs.SearchLaws.{bisect_count, bisect_samples}
use Rattle.reference.proofs.search.bisect_repeatedly.Goals as goal

pub loop-init : goal.loop-init
loop-init c = (iter_none _ _, record { trials = omega arith; samples = omega arith })

pub bisect-s-requires : goal.bisect-s-requires
bisect-s-requires c =
    let grown = c.loop.invariant.1 in
    (search rules, (search rules, record { trials = omega (arith, grown.trials, c.requires.1.1.trials); samples = omega (arith, grown.samples, c.requires.1.1.samples) }))

pub loop-preserved : goal.loop-preserved
loop-preserved c =
    let grown = c.loop.invariant.1 in
    let a : c.bisect-s.result.count ≤ c.loop.s.count + 1 = rw c.bisect-s.ensures (bisect_count _ _ _) in
    let b : c.bisect-s.result.samples ≤ c.loop.s.samples + (c.args.steps + 2) = rw c.bisect-s.ensures (bisect_samples _ _ _) in
    (iter_next _ _ _ c.loop.invariant.0 c.bisect-s.ensures, record { trials = omega (arith, a, grown.trials); samples = omega (arith, b, grown.samples, c.requires.1.0) })

pub returns : goal.returns
returns c =
    let grown = c.loop.invariant.1 in
    let e : c.loop.counter ≡ c.args.n = omega arith in
    (rw e at c.loop.invariant.0, record { trials = omega (arith, grown.trials); samples = omega (arith, grown.samples) })
