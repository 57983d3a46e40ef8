-- `scvx::columns::past_row` is safe. Assumes nothing.
use Prim.Native.Nat.{◌+◌, ◌≤◌}
use native.Mathlib.Nat.{mul-le-mul}
use native.Mathlib.Omega.{arith}
use Rattle.scvx.proofs.columns.past_row.Goals as goal

pub overflow_mul-result : goal.overflow_mul-result
overflow_mul-result c =
    let h : c.args.steps + 1 ≤ 16 = omega arith in
    omega (arith, mul-le-mul {m₁ = c.args.controls} {m₂ = 12} h c.requires)
