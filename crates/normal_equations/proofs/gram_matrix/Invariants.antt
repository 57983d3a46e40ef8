use Rattle.std.proofs.Common.{◌≡◌, ℕ, ◌*◌, List, take, drop}
use Rattle.std.specs.Float.Ieee.{Float}
use Rattle.normal_equations.specs.Inner as Inner
use Rattle.normal_equations.specs.Rows as R
use Rattle.normal_equations.specs.Tab.{tab}
use Rattle.normal_equations.specs.FilledInner.{Filled}
use Rattle.normal_equations.proofs.gram_matrix.Given as goal

-- of the matrix in v, which was v₀, the rows below c are right
abbrev pub Right : ℕ → ℕ → List Float → ℕ → List Float → Type 0
Right n m v₀ c v = Filled (λ x. tab n (Inner.sums_of m (take (n * m) v₀) x)) 0 c (R.row n (drop (n * m) v₀)) (R.row n (drop (n * m) v))

abbrev pub invariant-loop-p : goal.invariant-loop-p
invariant-loop-p l = (take (l.n * l.m) l.v ≡ take (l.n * l.m) l.initial.v) × (Right l.n l.m l.initial.v (2 * l.p) l.v)
