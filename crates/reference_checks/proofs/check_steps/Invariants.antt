use Rattle.std.proofs.Common.{◌≡◌, ◌+◌}
use Rattle.common.specs.Iter.{iter}
use Rattle.common.specs.Refusals.{going}
use Rattle.reference_checks.specs.Checks as Checks
use Rattle.reference_checks.proofs.check_steps.Given as goal

-- the first k steps pass, and `last` is sample k
abbrev pub invariant-loop-k : goal.invariant-loop-k
invariant-loop-k l = (l.last ≡ Checks.sample_of l.r l.k) × (Checks.verdict going (l.k + 1) ≡ iter (Checks.step_turn l.r) (Checks.verdict going 1) l.k)
