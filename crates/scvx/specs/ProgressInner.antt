-- What the code of the search keeps besides a state, the sizes it works with, and what holds of them. Definitions, and the sizes of a workspace that has room.
use Rattle.std.specs.Prelude.{ℕ, ◌+◌, ◌*◌, ◌≤◌, ◌≡◌, refl, Bool, true, false, cond, List, take, Float, Option, Some, None, Result, Ok, Err}
use Rattle.std.proofs.Common.{ap, sym, subst, ◌∙◌, inl, inr, true≢false, mul-add, mul-le-mul, le_refl, arith}
use Rattle.std.specs.Float.Ieee.{lt}
use Rattle.common.specs.Floats.{plus_zero}
use Rattle.common.specs.Lists.{at}
use Rattle.residuals.specs.declared.ResidualVector.{ResidualVector}
use Rattle.actuators.specs.Maps.{control_dim, is_sized}
use Rattle.problem.specs.declared.CheckedProblem.{CheckedProblem}
use Rattle.residuals.specs.Sums.{norm_slice}
use Rattle.residuals.specs.Residuals.{residuals_of}
use Rattle.normal_equations.specs.Normal.{slopes}
use Rattle.normal_equations.specs.Rows.{row}
use Rattle.normal_equations.specs.Placed.{ColumnPut}
use Rattle.elimination.specs.Elimination.{Solution, Solved, Singular}
use Rattle.damped_steps.specs.Gram.{GramKept}
use Rattle.kept_rows.specs.Kept.{Laid, kept, Gathered, Zeros, scatter, columns}
use Rattle.kept_rows.specs.KeptLaws.{kept_most}
use Rattle.kept_rows.proofs.ZeroLaws.{residuals_zeros}
use Rattle.scvx.specs.declared.Status.TheVariants.{Going}
use Rattle.scvx.specs.declared.Candidate.{Candidate}
use Rattle.scvx.specs.declared.SearchState.{SearchState}
use Rattle.scvx.specs.declared.Progress.{Progress}
use Rattle.scvx.specs.declared.BrokenColumn.{BrokenColumn}
use Rattle.scvx.specs.Search.{numbers, width, perturb, seed_candidate, room, Columns, Formed, Broken, jacobian, first_damping}
use Rattle.common.specs.Refusals.{Fate, going}

-- ---- sizes

-- n numbers a decision and m residuals of a problem that runs may take, and a workspace of len numbers that holds the columns' kept rows and the matrix
pub record Sizes (p : CheckedProblem) (n m len : ℕ) : Type 0 where
  pub sized : is_sized p.map ≡ true
  pub narrow : control_dim p.map ≤ 12
  pub n_is : n ≡ numbers p
  pub m_is : m ≡ width p
  pub n_most : n ≤ 193
  pub m_most : m ≤ 79
  pub fits : n * kept m + n * n ≤ len

pub numbers_most : (p : CheckedProblem) → control_dim p.map ≤ 12 → numbers p ≤ 193
unfolding numbers
numbers_most p h = omega arith

pub width_most : (p : CheckedProblem) → width p ≤ 79
unfolding width
width_most p = by (lt plus_zero p.weights.pointing)
  where
    by : (b : Bool) → cond b 79 28 ≤ 79
    by true = omega arith
    by false = omega arith

pub width_laid : (p : CheckedProblem) {m : ℕ} → m ≡ width p → Laid m
unfolding width
width_laid p e = rw e (by (lt plus_zero p.weights.pointing))
  where
    by : (b : Bool) → Laid (cond b 79 28)
    by true = inr refl
    by false = inl refl

pub spread : (n m : ℕ) → n * (n + m + 6) ≡ n * n + n * m + n * 6
spread n m = mul-add n (n + m) 6 ∙ ap (λ x. x + n * 6) (mul-add n n m)

pub product_most : (n m : ℕ) → n ≤ 193 → m ≤ 79 → n * (n + m + 6) ≤ 193 * 278
product_most n m h k = mul-le-mul {m₂ = 278} h (omega arith)

-- a workspace with room has them
pub sizes_of : (p : CheckedProblem) (n m len : ℕ) → is_sized p.map ≡ true → control_dim p.map ≤ 12 → n ≡ numbers p → m ≡ width p → room p ≤ len → Sizes p n m len
unfolding room
sizes_of p n m len s h en em r =
    record {
      sized = s;
      narrow = h;
      n_is = en;
      m_is = em;
      n_most = omega (arith, numbers_most p h);
      m_most = omega (arith, width_most p);
      fits = omega (arith, mul-le-mul (le_refl n) (kept_most m (width_laid p em)), spread n m, rw (← en, ← em) at r);
    }

-- of a workspace that is as long, and of the step's own numbers
pub sizes_kept : {p : CheckedProblem} {n m a b : ℕ} → Sizes p n m a → b ≡ a → Sizes p n m b
sizes_kept {p} {n} {m} s e = subst (λ k. Sizes p n m k) (sym e) s

pub sizes_step : {p : CheckedProblem} {n m len : ℕ} (k : ℕ) → Sizes p n m len → k ≡ n → Sizes p k m (k * kept m + k * k)
sizes_step {p} {n} {m} k s e = subst (λ x. Sizes p x m (x * kept m + x * x)) (sym e) (record { sized = s.sized; narrow = s.narrow; n_is = s.n_is; m_is = s.m_is; n_most = s.n_most; m_most = s.m_most; fits = le_refl (n * kept m + n * n) })

-- ---- what is kept

-- the n columns of m numbers whose kept rows stand in the front of the workspace v
abbrev pub columns_in : ℕ → ℕ → List Float → List (List Float)
columns_in n m v = columns n m (take (n * kept m) v)

-- column c of m numbers, which are x: its kept rows stand in u, and all else is as it was in v
pub record ColumnStands (m c : ℕ) (x v u : List Float) : Type 0 where
  pub put : ColumnPut (kept m) c (row (kept m) u c) v u
  pub whole : scatter m (row (kept m) u c) ≡ x

-- what column c of m numbers, which are x, leaves of the workspace v in u, by its run: a run that goes on changes the column alone, a refused one nothing
abbrev pub ColumnLeft : Fate → ℕ → ℕ → List Float → List Float → List Float → Type 0
ColumnLeft (Ok _) m c x v u = ColumnStands m c x v u
ColumnLeft (Err why) m c x v u = u ≡ v

-- the same of column c at the decision z: x has the kept rows of its residuals
abbrev pub ColumnMade : CheckedProblem → ℕ → ℕ → List Float → List Float → Fate → List Float → List Float → Type 0
ColumnMade p m c z x f v u = (r0 : List Float) → Gathered m r0 x → Zeros m r0 → ColumnLeft f m c (slopes m (residuals_of p (perturb p z c)).r r0) v u

-- from place e on, u is as v was
abbrev pub SameFrom : ℕ → List Float → List Float → Type 0
SameFrom e v u = (i : ℕ) → e ≤ i → at u i ≡ at v i

-- the columns that the code leaves, or its refusal, as the definition has them
abbrev pub columns_of : Result (Unit {0}) BrokenColumn → List (List Float) → Columns
columns_of (Ok _) j = Formed j
columns_of (Err e) j = Broken e.why e.runs

-- the step that the code answers, of n numbers, as the definition has it
abbrev pub step_as : ℕ → Option (List Float) → Solution
step_as n (Some d) = Solved (take n d)
step_as n None = Singular

-- r is the residuals of the decision z, whose run goes on
pub record Answers (p : CheckedProblem) (z r : List Float) : Type 0 where
  pub goes : (residuals_of p z).fate ≡ going
  pub are : (residuals_of p z).r ≡ r

-- the same of the candidate's decision, and its length is theirs
pub record Known (p : CheckedProblem) (c : Candidate) (r : List Float) : Type 0 where
  pub answers : Answers p c.z r
  pub long : c.residual ≡ norm_slice r (width p)

-- x has the kept rows of its m residuals
pub record AnswersKept (p : CheckedProblem) (m : ℕ) (z x : List Float) : Type 0 where
  pub goes : (residuals_of p z).fate ≡ going
  pub rows : Gathered m (residuals_of p z).r x

-- of a candidate with its residuals; where the columns are told to be there, j is its Jacobian, and its Gram matrix is kept in a
pub record Standing (p : CheckedProblem) (c : Candidate) (r : List Float) (columns : Bool) (j : List (List Float)) (a : List Float) : Type 0 where
  pub known : Known p c r
  pub formed : columns ≡ true → jacobian p c.z r ≡ Formed j
  pub summed : columns ≡ true → GramKept (numbers p) (width p) j a

abbrev pub Holds : CheckedProblem → List (List Float) → List Float → Progress → Type 0
Holds p j a g = Standing p g.state.candidate g.r g.columns j a

-- what holds of g holds of x, whatever columns the workspace has and whatever is kept of them
abbrev pub Keeps : CheckedProblem → Progress → Progress → Type 0
Keeps p g x = (j : List (List Float)) (a : List Float) → Holds p j a g → Holds p j a x

-- the same residuals and columns beside another state
abbrev pub with_state : Progress → SearchState → Progress
with_state g s = record { state = s; r = g.r; columns = g.columns }

-- a state with so many runs more, after so many iterations
abbrev pub counted : SearchState → ℕ → ℕ → SearchState
counted s more iterations = record { candidate = s.candidate; lambda = s.lambda; iterations = iterations; runs = s.runs + more; status = s.status }

-- the seed, whose residuals are r, of which m count
abbrev pub start : ℕ → List Float → List Float → Progress
start m seed r = record { state = record { candidate = seed_candidate seed r m; lambda = first_damping; iterations = 0; runs = 1; status = Going }; r = r; columns = false }

-- ---- how it comes about and stays

pub known_of : {p : CheckedProblem} (c : Candidate) {e : ResidualVector} {m : ℕ} → e ≡ residuals_of p c.z → e.fate ≡ going → m ≡ width p → c.residual ≡ norm_slice e.r m → Known p c e.r
known_of {p} c {e} q g em l = record { answers = record { goes = rw (← q) g; are = rw (← q) refl }; long = l ∙ ap (λ x. norm_slice e.r x) em }

pub answers_kept : {p : CheckedProblem} {m : ℕ} {z r x : List Float} → Answers p z r → Gathered m r x → AnswersKept p m z x
answers_kept {p} {m} {z} {r} {x} a g = record { goes = a.goes; rows = subst (λ y. Gathered m y x) (sym a.are) g }

-- a column whose kept rows were put
pub column_stands : {m c : ℕ} {x y v u : List Float} → ColumnPut (kept m) c y v u → scatter m y ≡ x → ColumnStands m c x v u
column_stands {m} {c} {x} {y} {v} {u} put whole =
    record { put = subst (λ z. ColumnPut (kept m) c z v u) (sym put.own) put; whole = ap (scatter m) put.own ∙ whole }

-- the rows left out are +0.0 in the residuals of a decision
pub width_zeros : (p : CheckedProblem) (z : List Float) {m : ℕ} → m ≡ width p → Zeros m (residuals_of p z).r
unfolding width
width_zeros p z e = rw e (residuals_zeros p z)

pub known_zeros : {p : CheckedProblem} {c : Candidate} {r : List Float} {m : ℕ} → Known p c r → m ≡ width p → Zeros m r
known_zeros {p} {c} k e = rw (← k.answers.are) (width_zeros p c.z e)

-- a decision that was let in: its columns are not there
pub stands_new : {p : CheckedProblem} {c : Candidate} {r : List Float} {j : List (List Float)} {a : List Float} → Known p c r → Standing p c r false j a
stands_new k = record { known = k; formed = λ e. absurd (true≢false (sym e)); summed = λ e. absurd (true≢false (sym e)) }

-- its columns are formed and summed, or a refusal left something else in their place
pub stands_formed : {p : CheckedProblem} {c : Candidate} {r : List Float} {columns : Bool} {j i : List (List Float)} {a b : List Float} {n m : ℕ} → Standing p c r columns j a → n ≡ numbers p → m ≡ width p
    → jacobian p c.z r ≡ Formed i → GramKept n m i b → Standing p c r true i b
stands_formed h en em e s = record { known = h.known; formed = λ _. e; summed = λ _. rw (← en, ← em) s }

pub stands_summed : {p : CheckedProblem} {c : Candidate} {r : List Float} {columns : Bool} {j : List (List Float)} {a : List Float} {n m : ℕ} → Standing p c r columns j a → n ≡ numbers p → m ≡ width p → columns ≡ true → GramKept n m j a
stands_summed h en em e = rw (en, em) (h.summed e)

pub stands_broken : {p : CheckedProblem} {c : Candidate} {r : List Float} {columns : Bool} {j i : List (List Float)} {a b : List Float} → Standing p c r columns j a → Standing p c r false i b
stands_broken h = stands_new h.known
