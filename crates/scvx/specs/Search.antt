-- The search, as `solve` and `jacobian` of scvx.rs have it: a decision, a damping factor and the counts, from iteration to iteration. Definitions only.
--
-- Where the lines of oracle/vendor/scvx.rs stand, by what is found in them; with no crate's name, in this file:
--   `solve`
--     seed_omega.len() != n, seed_duration <= 0.0           planner `Plans.seeded`: refusal 10
--     allocate_body_torque, project_controls(&mut row       seeds `Seeds.seed_decision`
--     lambda = LM_LAMBDA0                                   `first_damping`, in `start_of`
--     best = residual_norm(problem, &z)                     `start`, `seed_candidate`
--     for iter in 0..MAX_ITERS                              `searched`: 40 times `turn`, which leaves a search that has ended as it is
--     iters = iter as u32 + 1, r = residuals(problem, &z)   `begin_iteration`, `iterate`
--     mag <= DEFECT_TOL                                     `goal`, `improved`
--     jac = jacobian(problem, &z, &r)                       `jacobian`, in `linear_step`
--     a[c][d] += .., a[k][k] += lambda                      `normal_matrix`: normal_equations `Normal.normal_matrix`
--     g[c] += .., g[k] = -g[k]                              `right_side`: normal_equations `Normal.right_side`
--     solve_dense(&mut a, &mut g)                           `step_of`: elimination `Elimination.solve_dense`
--     (lambda * 8.0).min(1.0e6)                             `stiffer`, in `take_step_by`
--     apply_step(&z, &g), project_decision                  `applied`, `trial_of`
--     trial_norm = residual_norm(problem, &trial)           `try_step`, `trial_candidate`
--     trial_norm < best, z = trial                          `judge`, `move_to`
--     (lambda * 0.3).max(1.0e-8)                            `weaker`
--     (lambda * 4.0).min(1.0e6)                             `stronger`
--     path = reconstruct(problem, &z), after the loop       `final_run`
--     ATT_TOL, RATE_TOL, max_defect > DEFECT_TOL, > 1.0e-9  end_checks `Ends.end_fate`
--     out.iterations = iters                                `final_run_by`
--   `jacobian`
--     for c in 0..n_z                                       `jacobian`, `column_turn`
--     plus[c] += FD_EPS, unpack, project_decision           `perturb`, `project`
--     rp = residuals(problem, &zp)?                         `column_of`; a refusal is `Broken`
--     jac[i][c] = (rp[i] - r0[i]) / FD_EPS                  normal_equations `Normal.slopes`, `fd_eps`
--   `packed_len` is `numbers`, `residual_norm` is `residual_length`. Not here: `cancelled`; the test in `jacobian` of how many residuals there are (`width`).
use Rattle.std.specs.Prelude.{ℕ, ◌+◌, ◌*◌, Bool, true, false, cond, List, [], ◌∷◌, ◌++◌, set, replicate, Float, Ok, Err}
use Rattle.std.specs.Float.{binary64}
use Rattle.std.specs.Float.Ieee.{add, mul, lt, le, of_bits}
use Rattle.common.specs.Floats.{plus_zero}
use Rattle.common.specs.Iter.{iter}
use Rattle.common.specs.Lists.{at}
use Rattle.float.specs.Ops.{min, max}
use Rattle.actuators.specs.Maps.{control_dim}
use Rattle.problem.specs.declared.CheckedProblem.{CheckedProblem}
use Rattle.held_counts.specs.Counts.{held_counts, none_held}
use Rattle.forward.specs.Decisions.{packed_len, unpack, project_decision}
use Rattle.forward.specs.Runs.{run_of, refused_run}
use Rattle.forward.specs.declared.Run.{Run}
use Rattle.residuals.specs.Sums.{norm_slice}
use Rattle.residuals.specs.Residuals.{residuals_of}
use Rattle.residuals.specs.declared.ResidualVector.{ResidualVector}
use Rattle.normal_equations.specs.Normal as Normal
use Rattle.normal_equations.specs.Normal.{fd_eps, slopes}
use Rattle.elimination.specs.Elimination.{Solution, Solved, Singular, solve_dense}
use Rattle.scvx.specs.declared.Status.{Status}
use Rattle.scvx.specs.declared.Status.TheVariants.{Going, Ended, Refused}
use Rattle.scvx.specs.declared.Candidate.{Candidate}
use Rattle.scvx.specs.declared.SearchState.{SearchState}
use Rattle.scvx.specs.declared.Found.{Found}
use Rattle.common.specs.Refusals.{Fate, going}
use Rattle.common.specs.declared.Refusal.{Refusal}

-- n: the numbers of a decision
unfoldable pub numbers : CheckedProblem → ℕ
numbers p = packed_len (control_dim p.map)

-- the residuals of a decision: 28, or 79 with a pointing weight above 0
unfoldable pub width : CheckedProblem → ℕ
width p = cond (lt plus_zero p.weights.pointing) 79 28

-- the length of residuals, and a decision's residual length: that of its residuals after one run of the step law on it
abbrev pub length_of : CheckedProblem → ResidualVector → Float
length_of p e = norm_slice e.r (width p)

abbrev pub residual_length : CheckedProblem → List Float → Float
residual_length p z = length_of p (residuals_of p z)

-- the seed's decision z with its residual length, r being its residuals, of which m count
abbrev pub seed_candidate : List Float → List Float → ℕ → Candidate
seed_candidate z r m = record { z = z; residual = norm_slice r m; tried = false; held = none_held }

-- a trial's decision with its residual length and with how many controls its projection held, place by place in a row
abbrev pub trial_candidate : List Float → List Float → ℕ → List ℕ → Candidate
trial_candidate z r m held = record { z = z; residual = norm_slice r m; tried = true; held = held }

-- every decision but the seed's: the duration at least 1e-6, then within 0.001..10,000, each control held to its limit
abbrev pub project : CheckedProblem → List Float → List Float
project p z = project_decision p.map p.torque_limit (unpack z)

-- ---- the Jacobian, by columns

-- the decision whose residuals make column c: number c moved by the step by which the difference is divided
abbrev pub perturb : CheckedProblem → List Float → ℕ → List Float
perturb p z c = project p (set z c (add binary64 (at z c) fd_eps))

-- the columns so far, or the refusal of a column's run and the columns' runs begun
pub data Columns : Type 0 where
  Formed : List (List Float) → Columns
  Broken : Refusal → ℕ → Columns

abbrev pub column_by : ℕ → List Float → ℕ → List (List Float) → Fate → List Float → Columns
column_by m r0 c l (Ok _) rp = Formed (l ++ (slopes m rp r0 ∷ []))
column_by m r0 c l (Err why) rp = Broken why (c + 1)

abbrev pub column_of : ℕ → List Float → ℕ → List (List Float) → ResidualVector → Columns
column_of m r0 c l e = column_by m r0 c l e.fate e.r

-- column c of m residuals, after those before it; a refusal ends them
abbrev pub column_turn : CheckedProblem → ℕ → List Float → List Float → ℕ → Columns → Columns
column_turn p m z r0 c (Formed l) = column_of m r0 c l (residuals_of p (perturb p z c))
column_turn p m z r0 c (Broken why runs) = Broken why runs

-- at the decision z, whose residuals are r0
unfoldable pub jacobian : CheckedProblem → List Float → List Float → Columns
jacobian p z r0 = iter (column_turn p (width p) z r0) (Formed []) (numbers p)

-- ---- the normal equations of the columns j of the Jacobian at a decision, whose residuals are r

-- the matrix: for each two columns their products, summed over the residual rows in order from +0.0; then the damping factor is added on the diagonal
abbrev pub normal_matrix : CheckedProblem → List (List Float) → Float → List (List Float)
normal_matrix p j lambda = Normal.normal_matrix (numbers p) (width p) j lambda

-- the right side: for each column its products with the residuals, summed over the residual rows in order from +0.0; then the sign is turned
abbrev pub right_side : CheckedProblem → List (List Float) → List Float → List Float
right_side p j r = Normal.right_side (numbers p) (width p) j r

-- the step that solves them
abbrev pub step_of : CheckedProblem → List (List Float) → List Float → Float → Solution
step_of p j r lambda = solve_dense (numbers p) (normal_matrix p j lambda) (right_side p j r)

-- ---- the parts of an iteration
abbrev pub count_runs_value : SearchState → ℕ → SearchState
count_runs_value s more = record { candidate = s.candidate; lambda = s.lambda; iterations = s.iterations; runs = s.runs + more; status = s.status }

abbrev pub with_status : SearchState → Status → SearchState
with_status s f = record { candidate = s.candidate; lambda = s.lambda; iterations = s.iterations; runs = s.runs; status = f }

abbrev pub with_damping : SearchState → Float → SearchState
with_damping s x = record { candidate = s.candidate; lambda = x; iterations = s.iterations; runs = s.runs; status = s.status }

abbrev pub move_to : SearchState → Candidate → Float → SearchState
move_to s t x = record { candidate = t; lambda = x; iterations = s.iterations; runs = s.runs; status = s.status }

-- 1e6, the most of the damping factor
abbrev pub strongest : Float
strongest = of_bits binary64 0x412e_8480_0000_0000

-- × 8 up to 1e6: a pivot was too small
abbrev pub stiffer : Float → Float
stiffer x = min (mul binary64 x (of_bits binary64 0x4020_0000_0000_0000)) strongest

-- × 0.3 down to 1e-8: the trial's length is strictly smaller
abbrev pub weaker : Float → Float
weaker x = max (mul binary64 x (of_bits binary64 0x3fd3_3333_3333_3333)) (of_bits binary64 0x3e45_798e_e230_8c3a)

-- × 4 up to 1e6: it is not
abbrev pub stronger : Float → Float
stronger x = min (mul binary64 x (of_bits binary64 0x4010_0000_0000_0000)) strongest

-- a trial t is taken where its length is strictly smaller
unfoldable pub judge : SearchState → Candidate → SearchState
judge s t = cond (lt t.residual s.candidate.residual) (move_to s t (weaker s.lambda)) (with_damping s (stronger s.lambda))

abbrev pub try_step_by : CheckedProblem → SearchState → List Float → List ℕ → ResidualVector → Fate → SearchState
try_step_by p s t held e (Ok _) = judge s (trial_candidate t e.r (width p) held)
try_step_by p s t held e (Err why) = with_status s (Refused why)

abbrev pub try_step_of : CheckedProblem → SearchState → List Float → List ℕ → ResidualVector → SearchState
try_step_of p s t held e = try_step_by p s t held e e.fate

-- number i of the decision, moved by the step d
abbrev pub add_turn_value : List Float → ℕ → List Float → List Float
add_turn_value d i z = set z i (add binary64 (at z i) (at d i))

-- the decision z moved by the step d
abbrev pub applied : CheckedProblem → List Float → List Float → List Float
applied p z d = iter (add_turn_value d) z (numbers p)

-- the decision of a trial
unfoldable pub trial_of : CheckedProblem → List Float → List Float → List Float
trial_of p z d = project p (applied p z d)

-- how many controls its projection holds, place by place in a row
unfoldable pub trial_held : CheckedProblem → List Float → List Float → List ℕ
trial_held p z d = held_counts p.map p.torque_limit (applied p z d)

-- a trial as a candidate: one run
abbrev pub candidate_of : CheckedProblem → List Float → List Float → Candidate
candidate_of p z d = trial_candidate (trial_of p z d) (residuals_of p (trial_of p z d)).r (width p) (trial_held p z d)

-- the trial of a step d: one run
unfoldable pub try_step : CheckedProblem → SearchState → List Float → SearchState
try_step p s d = try_step_of p (count_runs_value s 1) (trial_of p s.candidate.z d) (trial_held p s.candidate.z d) (residuals_of p (trial_of p s.candidate.z d))

abbrev pub take_step_by : CheckedProblem → SearchState → Solution → SearchState
take_step_by p s (Solved d) = try_step p s d
take_step_by p s Singular = with_damping s (stiffer s.lambda)

-- the step of the normal equations of the columns j and the residuals r
unfoldable pub take_step : CheckedProblem → SearchState → List (List Float) → List Float → SearchState
take_step p s j r = take_step_by p s (step_of p j r s.lambda)

-- each column is one run
abbrev pub linear_step_by : CheckedProblem → SearchState → List Float → Columns → SearchState
linear_step_by p s r (Formed j) = take_step p (count_runs_value s (numbers p)) j r
linear_step_by p s r (Broken why runs) = with_status (count_runs_value s runs) (Refused why)

unfoldable pub linear_step : CheckedProblem → SearchState → List Float → SearchState
linear_step p s r = linear_step_by p s r (jacobian p s.candidate.z r)

-- DEFECT_TOL, 0.005
abbrev pub goal : Float
goal = of_bits binary64 0x3f74_7ae1_47ae_147b

-- `mag <= DEFECT_TOL` ends the search; a NaN goes on
unfoldable pub improved : CheckedProblem → SearchState → ResidualVector → SearchState
improved p s e = cond (le (length_of p e) goal) (with_status s Ended) (linear_step p s e.r)

abbrev pub iterate_by : CheckedProblem → SearchState → ResidualVector → Fate → SearchState
iterate_by p s e (Ok _) = improved p s e
iterate_by p s e (Err why) = with_status s (Refused why)

abbrev pub iterate_of : CheckedProblem → SearchState → ResidualVector → SearchState
iterate_of p s e = iterate_by p s e e.fate

-- iteration k + 1 begins with one run of the decision
abbrev pub begin_iteration : ℕ → SearchState → SearchState
begin_iteration k s = record { candidate = s.candidate; lambda = s.lambda; iterations = k + 1; runs = s.runs + 1; status = s.status }

unfoldable pub iterate : CheckedProblem → ℕ → SearchState → SearchState
iterate p k s = iterate_of p (begin_iteration k s) (residuals_of p s.candidate.z)

abbrev pub turn_by_value : CheckedProblem → ℕ → SearchState → Status → SearchState
turn_by_value p k s Going = iterate p k s
turn_by_value p k s Ended = s
turn_by_value p k s (Refused why) = s

unfoldable pub turn : CheckedProblem → ℕ → SearchState → SearchState
turn p k s = turn_by_value p k s s.status

-- ---- the whole

abbrev pub status_of : Fate → Status
status_of (Ok _) = Going
status_of (Err why) = Refused why

-- LM_LAMBDA0, 0.01: the first damping factor
abbrev pub first_damping : Float
first_damping = of_bits binary64 0x3f84_7ae1_47ae_147b

abbrev pub start_of : CheckedProblem → List Float → ResidualVector → SearchState
start_of p seed e = record { candidate = seed_candidate seed e.r (width p); lambda = first_damping; iterations = 0; runs = 1; status = status_of e.fate }

-- the seed's decision, its duration as it stands: one run
unfoldable pub start : CheckedProblem → List Float → SearchState
start p seed = start_of p seed (residuals_of p seed)

-- MAX_ITERS: at most 40 iterations
unfoldable pub searched : CheckedProblem → List Float → SearchState
searched p seed = iter (turn p) (start p seed) 40

-- a refusal: no decision
abbrev pub not_found : Refusal → ℕ → Found
not_found why runs = record { fate = Err why; runs = runs; iterations = 0; z = replicate 193 plus_zero; run = refused_run why.number why.place; tried = false; held = none_held }

abbrev pub final_run_by : SearchState → Run → Fate → Found
final_run_by s run (Ok _) = record { fate = going; runs = s.runs + 1; iterations = s.iterations; z = s.candidate.z; run = run; tried = s.candidate.tried; held = s.candidate.held }
final_run_by s run (Err why) = not_found why (s.runs + 1)

-- the run of the decision that is handed out, the last that is counted
unfoldable pub final_run : CheckedProblem → SearchState → Found
final_run p s = final_run_by s (run_of p s.candidate.z) (run_of p s.candidate.z).fate

abbrev pub conclude_by : CheckedProblem → SearchState → Status → Found
conclude_by p s Going = final_run p s
conclude_by p s Ended = final_run p s
conclude_by p s (Refused why) = not_found why s.runs

unfoldable pub conclude : CheckedProblem → SearchState → Found
conclude p s = conclude_by p s s.status

-- THE SEARCH from a seed's decision: what it finds, and how many forward runs it begins
unfoldable pub search : CheckedProblem → List Float → Found
search p seed = conclude p (searched p seed)

-- the numbers that the lent workspace needs
unfoldable pub room : CheckedProblem → ℕ
room p = numbers p * (numbers p + width p + 6) + 4 * width p
