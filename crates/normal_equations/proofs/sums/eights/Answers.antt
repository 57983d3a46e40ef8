use Rattle.std.proofs.Common.{◌+◌, ◌*◌, ◌≤◌, length, arith}
use Rattle.std.proofs.Math.Nat.{add-mul, mul-le-mul_right}
use Rattle.normal_equations.proofs.sums.eights.Goals as goal

pub eight_at-requires : goal.eight_at-requires
eight_at-requires c =
    let a = c.args in
    let l = c.loop-t in
    let h : a.from + 4 * l.t + 4 ≤ length a.row.now = omega arith in
    (omega arith, omega arith, omega arith, omega (arith, mul-le-mul_right (length a.o.now) h, add-mul (a.from + 4 * l.t) 4 (length a.o.now)))
