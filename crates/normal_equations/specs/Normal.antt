-- The normal equations of a Levenberg-Marquardt step, as `solve` in scvx.rs forms them. Definitions only.
-- The Jacobian is a list of n columns of m numbers: `cell j c i` is the Rust's jac[i][c]. r has m numbers, the matrix n rows of n, the right side n.
use Rattle.std.specs.Prelude.{ℕ, ◌+◌, ◌-◌, cond, List, [], eqb, get_or, Float}
use Rattle.std.specs.Float.{binary64}
use Rattle.std.specs.Float.Ieee.{add, sub, mul, div, neg, of_bits}
use Rattle.common.specs.Floats.{plus_zero}
use Rattle.common.specs.Iter.{iter}
use Rattle.common.specs.Lists.{at}
use Rattle.normal_equations.specs.Tab.{tab}

-- list i of a list of lists
abbrev pub line : List (List Float) → ℕ → List Float
line a i = get_or a i []

-- number j of list i
abbrev pub cell : List (List Float) → ℕ → ℕ → Float
cell a i j = at (line a i) j

-- FD_EPS, 1e-6: the step of a forward difference, by which the difference is divided
abbrev pub fd_eps : Float
fd_eps = of_bits binary64 0x3EB0_C6F7_A0B5_ED8D

-- a column of the Jacobian: (rp[i] - r0[i]) / 1e-6 for each of m residuals
unfoldable pub slopes : ℕ → List Float → List Float → List Float
slopes m rp r0 = tab m (λ i. div binary64 (sub binary64 (at rp i) (at r0 i)) fd_eps)

-- what residual row i adds: a[c][d] += jac[i][c] * jac[i][d]
unfoldable pub row_onto : ℕ → List (List Float) → ℕ → List (List Float) → List (List Float)
row_onto n j i a = tab n (λ c. tab n (λ d. add binary64 (cell a c d) (mul binary64 (cell j c i) (cell j d i))))

-- n by n, all +0.0
unfoldable pub blank : ℕ → List (List Float)
blank n = tab n (λ c. tab n (λ d. plus_zero))

-- the Gram matrix of the columns, each cell the sum of the products of two of them: the m residual rows in order
unfoldable pub gram : ℕ → ℕ → List (List Float) → List (List Float)
gram n m j = iter (row_onto n j) (blank n) m

-- a[k][k] += lambda
unfoldable pub damped : ℕ → Float → List (List Float) → List (List Float)
damped n lambda a = tab n (λ c. tab n (λ d. cond (eqb c d) (add binary64 (cell a c d) lambda) (cell a c d)))

-- the matrix: the m residual rows in order, then lambda on the diagonal
unfoldable pub normal_matrix : ℕ → ℕ → List (List Float) → Float → List (List Float)
normal_matrix n m j lambda = damped n lambda (iter (row_onto n j) (blank n) m)

-- what residual row i adds: g[c] += jac[i][c] * r[i]
unfoldable pub term_onto : ℕ → List (List Float) → List Float → ℕ → List Float → List Float
term_onto n j r i g = tab n (λ c. add binary64 (at g c) (mul binary64 (cell j c i) (at r i)))

-- the right side: the m residual rows in order from +0.0, then g[k] = -g[k]
unfoldable pub right_side : ℕ → ℕ → List (List Float) → List Float → List Float
right_side n m j r = tab n (λ c. neg (at (iter (term_onto n j r) (tab n (λ k. plus_zero)) m) c))

-- the sum of the products of two columns, over m residual rows in order, from +0.0
abbrev pub add_product : List Float → List Float → ℕ → Float → Float
add_product p q i s = add binary64 s (mul binary64 (at p i) (at q i))

abbrev pub dot : ℕ → List Float → List Float → Float
dot m p q = iter (add_product p q) plus_zero m
