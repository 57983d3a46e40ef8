-- What is left in the workspace after two calls. Assumes nothing.
use Rattle.std.specs.Prelude.{ℕ, zero, suc, ◌+◌, ◌≡◌, List, length, replicate, Float}
use Rattle.std.proofs.Math.Path.{refl}
use Rattle.std.proofs.Common.{sym, ap, ◌∙◌, zero-add, add-zero, arith}
use Rattle.std.proofs.lemmas.List.{length-replicate}
use Rattle.common.specs.Floats.{plus_zero}
use Rattle.planner.specs.Plans as Plans
use Rattle.planner.specs.PlanLaws.{leaves_none, leaves_begun}

-- it stays as long as it is, and what two calls leave is what their runs together leave
pub leaves_length : (n : ℕ) (ws : List Float) → length (Plans.leaves n ws) ≡ length ws
leaves_length zero ws = ap length (sym (leaves_none ws))
leaves_length (suc n) ws = ap length (sym (leaves_begun (suc n) ws (omega arith))) ∙ length-replicate (length ws) plus_zero

pub leaves_twice : (a b : ℕ) (ws : List Float) → Plans.leaves b (Plans.leaves a ws) ≡ Plans.leaves (a + b) ws
leaves_twice zero b ws = rw (← leaves_none ws, zero-add b) refl
leaves_twice (suc a) zero ws = rw (add-zero (suc a)) (sym (leaves_none (Plans.leaves (suc a) ws)))
leaves_twice (suc a) (suc b) ws =
    sym (leaves_begun (suc b) (Plans.leaves (suc a) ws) (omega arith))
    ∙ ap (λ (n : ℕ). replicate n plus_zero) (leaves_length (suc a) ws)
    ∙ leaves_begun (suc a + suc b) ws (omega arith)
