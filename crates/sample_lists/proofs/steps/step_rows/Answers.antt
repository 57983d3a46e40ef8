use Rattle.std.proofs.Common.{◌≡◌, refl, ℕ, ◌+◌, ◌<◌, ◌∙◌, List, [], length, length-set, set, get_or-set_same, get_or-set_other, add-one, arith}
use Rattle.std.specs.Float.Ieee.{Float}
use Rattle.float_laws.specs.Below.{below_next}
use Rattle.geom.specs.Vec as Vec
use Rattle.sample_lists.specs.StagesInner.{step_row}
use Rattle.sample_lists.proofs.steps.step_rows.Goals as goal

put : (j nodes rows : List (List Float)) (n : ℕ) {row : List Float} → n < length rows → row ≡ step_row j nodes n → ((k : ℕ) → k < n → Vec.row rows k ≡ step_row j nodes k) → (k : ℕ) → k < n + 1 → Vec.row (set rows n row) k ≡ step_row j nodes k
put j nodes rows n {row} h e f =
    rw (add-one n)
    (below_next (λ k. Vec.row (set rows n row) k ≡ step_row j nodes k) n (get_or-set_same rows n row [] h ∙ e)
    (λ k b. get_or-set_other rows n k row [] (λ q. omega (arith, q, b)) ∙ f k b))

pub loop-i-init : goal.loop-i-init
loop-i-init c = (refl, λ k b. absurd (omega (arith, b)))

pub loop-i-preserved : goal.loop-i-preserved
loop-i-preserved c =
    let l = c.loop-i in
    (length-set l.out l.i c.step_row.result ∙ l.invariant.0, put _ _ l.out l.i (omega (arith, l.invariant.0)) c.step_row.ensures l.invariant.1)

pub returns : goal.returns
returns c = let e : c.loop-i.i ≡ 16 = omega arith in rw e at c.loop-i.invariant.1
