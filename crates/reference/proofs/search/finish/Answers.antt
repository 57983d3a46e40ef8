use Rattle.std.proofs.Common.{rules}
use Rattle.reference.proofs.search.finish.Goals as goal
use native.Mathlib.Omega.{arith}
use mathlib.Core.Path.{◌∙◌}
use lib.Ieee as Ieee
use borrow.Author.Tests.{not-true, not-false}
use Rattle.reference.specs.SearchLaws.{finish_goes, finish_ends}

pub returns-then-not-s : goal.returns-then-not-s
returns-then-not-s c = (c.result_of.ensures ∙ finish_ends _ _ (not-true c.args.s.found c.if-not-s.true), rw c.result_of.ensures (omega arith))

pub lengthen_repeatedly-requires : goal.lengthen_repeatedly-requires
lengthen_repeatedly-requires c = rw c.fine_trials.ensures (search rules, (search rules, record { trials = omega arith; samples = omega arith }))

pub returns : goal.returns
unfolding Ieee.of_bits
returns c = let h = c.lengthen_repeatedly.ensures in let n = rw c.fine_trials.ensures at h.1.trials in (rw (c.result_of-2.ensures, h.0, c.fine_trials.ensures) (finish_goes _ _ (not-false c.args.s.found c.if-not-s.false)), rw c.result_of-2.ensures (omega (arith, n)))
