-- The elimination and the step for lists of any lengths: where they do not fit, nothing is found. Definitions only.
use Rattle.std.specs.Prelude.{ℕ, ◌+◌, ◌*◌, cond, List, ltb, eqb, length, take, Float}
use Rattle.normal_equations.specs.Rows.{rows}
use Rattle.elimination.specs.Elimination.{Solution, Singular, solve_dense, damped_step}

-- the system of a matrix by rows and a right side of at most 193 numbers, solved
abbrev pub solved : List Float → List Float → Solution
solved a b =
    cond (ltb 193 (length b)) Singular
    (cond (eqb (length a) (length b * length b)) (solve_dense (length b) (rows (length b) (length b) a) b) Singular)

-- the step for n columns of m numbers, which begin v, where n is the length of g
abbrev pub stepped_by : ℕ → List Float → ℕ → List Float → Float → Solution
stepped_by n v m r lambda =
    cond (eqb (length v) (n * m + n * n)) (damped_step n m (rows n m (take (n * m) v)) r lambda) Singular

abbrev pub stepped : List Float → ℕ → List Float → Float → List Float → Solution
stepped v m r lambda g =
    cond (ltb 193 (length g)) Singular
    (cond (ltb 193 m) Singular (cond (ltb (length r) m) Singular (stepped_by (length g) v m r lambda)))
