-- D tells whether the root is s - 1, s or s + 1 (`one_less`, `itself`, `one_more`).
use Rattle.std.proofs.Common.{ℕ, ◌+◌, ap, ◌∙◌, arith}
use Rattle.float.proofs.Settled.{one_less, itself, one_more}
use Rattle.float.proofs.root.settled.Goals.{then-d-s, else-d-s}
use Rattle.float.proofs.root.settled.Goals as goal

pub returns-then-d-s-2 : goal.returns-then-d-s-2
returns-then-d-s-2 c n h =
    elim c.if-d-s.branch [ then-d-s w ↦ w.r-is ∙ one_less _ _ n (omega arith) h w.if-d-s.true | else-d-s w ↦ w.r-is ∙ itself _ _ n (omega arith) h (omega arith) c.if-d-s-2.true ]

pub returns-else-d-s-2 : goal.returns-else-d-s-2
returns-else-d-s-2 c n h =
    elim c.if-d-s.branch [ then-d-s w ↦ absurd (omega arith) | else-d-s w ↦ ap (λ (z : ℕ). z + 1) w.r-is ∙ one_more _ _ n (omega arith) h c.if-d-s-2.false (omega arith) ]
