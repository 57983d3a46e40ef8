use Rattle.std.proofs.Common.{ℕ, arith}
use Rattle.std.proofs.Math.ListN.{length-replicate, get_or-replicate}
use Rattle.reach_avoid.proofs.begin.Goals as goal

pub loop-k-init : goal.loop-k-init
loop-k-init c =
    record { size = length-replicate {A = ℕ} 2193 255; done = λ x h. absurd (omega arith); ahead = λ x h l. get_or-replicate 2193 x 255 0 l }
