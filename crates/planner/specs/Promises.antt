-- Demand 3, whole: what holds of an answered path, for every problem, every seed and every workspace. In the specification's words. Definitions only.
use Rattle.std.specs.Prelude.{◌≡◌, false, List, [], ◌∷◌, ℕ, ◌+◌, ◌*◌, ◌<◌, ◌≤◌, T, ◌+ℤ◌, ◌<ℤ◌, Float, Some}
use Rattle.std.specs.Float.Ieee.{le}
use Rattle.std.specs.Float.Ieee.Scale.{finite}
use Rattle.common.specs.Floats.{plus_zero}
use Rattle.common.specs.Answer.{Answer, Given, Refused}
use Rattle.common.specs.Lists.{at}
use Rattle.float.specs.Ops.{abs}
use Rattle.float_laws.specs.Exact.{exact}
use Rattle.float_laws.specs.Limits.{next_above_nano}
use Rattle.geom.specs.Quats.{norm3, normalized}
use Rattle.geom.specs.declared.Quat.{Quat}
use Rattle.control_rows.specs.Parts.{body_momentum}
use Rattle.held_counts.specs.Counts.{count_at_value}
use Rattle.profile.specs.Seeds.{sample_seed}
use Rattle.problem.specs.Problems.{check}
use Rattle.problem.specs.declared.Problem.{Problem}
use Rattle.problem.specs.declared.CheckedProblem.{CheckedProblem}
use Rattle.forward.specs.Decisions.{packed_len}
use Rattle.forward.specs.Reconstruct.{reconstruct}
use Rattle.forward.specs.declared.Node.{Node}
use Rattle.forward.specs.Runs.{node_at}
use Rattle.residuals.specs.Sums.{norm_slice}
use Rattle.residuals.specs.Residuals.{error_of}
use Rattle.residuals.specs.MeasuredResiduals.{residuals}
use Rattle.scvx.specs.Search.{search}
use Rattle.scvx.specs.declared.Candidate.{Candidate}
use Rattle.end_checks.specs.Ends.{tolerance}
use Rattle.run_laws.specs.Values.{Fine3, FineN}
use Rattle.run_laws.specs.Paths.{control}
use Rattle.search_laws.specs.Better.{Better}
use Rattle.search_laws.specs.Made.{LastTaken}
use Rattle.search_laws.specs.Declared.{controls_of, control_limit, momentum_limit}
use Rattle.planner.specs.Plans as Plans
use Rattle.planner.specs.declared.Path.{Path}
use Rattle.planner.specs.declared.Planned.{Planned}
use Rattle.common.specs.Refusals.{refusal, going}

-- ---- words

-- t passes the limit l, as exact numbers, by less than the f64 next above 1e-9: both sides are whole numbers of 2 ^ -1074
pub record PassesByLess (t l : Float) : Type 0 where
  pub fine : T (finite t)
  pub less : exact (abs t) <ℤ (exact l +ℤ exact next_above_nano)

-- The final attitude error: the turn x, y, z that is left from the node's attitude to the problem's qf, which is normalized first. Its computed length is the
-- one that 14 tests.
pub record EndError (p : Problem) (n : Node) : Type 0 where
  pub qf : Quat
  pub qf_is : normalized p.norm_tolerance p.qf ≡ Some qf
  pub x : Float
  pub y : Float
  pub z : Float
  pub is : error_of n.q qf ≡ Some (x, y, z)
  pub small : T (le (norm3 (x ∷ y ∷ z ∷ [])) tolerance)

-- the decision of our own entry's seed, which is sampled from the problem's profile
abbrev pub own_seed : CheckedProblem → List Float
own_seed c = Plans.seed_of c (sample_seed (Plans.profiled c).profile).duration (sample_seed (Plans.profiled c).profile).torques

-- a decision's residual length: the computed length of the residuals that the user's own call of `residuals` gives
abbrev pub residual_length : Problem → List Float → Float
residual_length p z = norm_slice (residuals p z).residuals.r (residuals p z).residuals.count

-- a node whose time, attitude, rate, torque and wheel momenta are finite
pub record FiniteNode (n : Node) : Type 0 where
  pub t : T (finite n.t)
  pub q : T (finite n.q.w) × T (finite n.q.x) × T (finite n.q.y) × T (finite n.q.z)
  pub w : Fine3 n.w
  pub tau : Fine3 n.tau
  pub hw : FineN 8 n.hw

-- How many controls were held in the projection that made the path's decision. The search stayed at the seed's decision, whose counts are those of its allocated
-- rows (`PromisesKept.plan_held`); or the decision is the last trial that the search took, from the decision at which it stood and by the step that solves the
-- normal equations there, and the counts are those of that decision moved by that step, before it was projected (`Search.trial_held`).
pub data HeldBy (c : CheckedProblem) (seed : List Float) (path : Path) : Type 0 where
  as_seed : path.z ≡ seed → (search c seed).tried ≡ false → HeldBy c seed path
  as_trial : (t : Candidate) → LastTaken c seed 40 t → path.z ≡ t.z → path.held ≡ t.held → HeldBy c seed path

-- our own seed's counts: of its allocated rows
abbrev pub own_held : CheckedProblem → List ℕ
own_held c = Plans.seed_held_of c (sample_seed (Plans.profiled c).profile).duration (sample_seed (Plans.profiled c).profile).torques

-- ---- DEMAND 3 of the problem p, the seed's decision, the answered path and the forward runs reported
pub record Promised (p : Problem) (seed : List Float) (path : Path) (reported : ℕ) : Type 0 where
  -- the path's duration and counts
  pub duration : path.duration ≡ at path.z 0
  pub width : path.controls ≡ controls_of p.actuators
  pub wheels : path.wheels ≡ p.actuators.wheel_count
  -- its duration and sixteen control rows, run once through the step law from the problem's start with no search, give exactly its nodes
  pub rerun_goes : (reconstruct p path.z).run.fate ≡ going
  pub rerun_once : (reconstruct p path.z).runs ≡ 1
  pub rerun_nodes : (reconstruct p path.z).run.nodes ≡ path.nodes
  pub rerun_defect : (reconstruct p path.z).run.defect ≡ path.max_defect
  -- node 0 has the momenta that the user gives, one a wheel, bit for bit, and the body momentum that they make along the wheels' unit axes
  pub start_count : p.momenta.count ≡ p.actuators.wheel_count
  pub start_momenta : (i : ℕ) → i < p.actuators.wheel_count → at (node_at path.nodes 0).hw i ≡ at p.momenta.at i
  pub start_stored : (node_at path.nodes 0).h ≡ body_momentum (check p).problem.map.wheel_axes p.actuators.wheel_count (node_at path.nodes 0).hw
  -- each control is in size at most its actuator's limit
  pub controls : (k : ℕ) → k < 16 → (i : ℕ) → i < controls_of p.actuators → T (le (abs (control (controls_of p.actuators) path.z k i)) (control_limit p i))
  -- the final attitude error and rate have computed lengths of at most 0.0001
  pub end_error : EndError p (node_at path.nodes 16)
  pub end_rate : T (le (norm3 (node_at path.nodes 16).w) tolerance)
  -- each node's body torques and wheel momenta, as exact numbers, pass their limits by less than the f64 next above 1e-9
  pub torques : (k : ℕ) → k < 17 → (i : ℕ) → i < 3 → PassesByLess (at (node_at path.nodes k).tau i) (at p.torque_limit i)
  pub momenta : (k : ℕ) → k < 17 → (i : ℕ) → i < p.actuators.wheel_count → PassesByLess (at (node_at path.nodes k).hw i) (momentum_limit p i)
  -- its residual length is below the seed's, or its decision is the seed's, bit for bit; neither decision's residuals are refused
  pub residual : Better (residual_length p) seed path.z
  pub measured : (residuals p path.z).residuals.fate ≡ going
  pub seed_measured : (residuals p seed).residuals.fate ≡ going
  -- the forward runs reported are the number that the search definition begins on that problem and seed
  pub runs : reported ≡ (search (check p).problem seed).runs
  pub bound : reported ≤ 40 * (16 * controls_of p.actuators + 3) + 2
  -- how many of the 16 controls at each place of a row were held in the projection that made the decision: at most 16, and 0 past the controls
  pub held : HeldBy (check p).problem seed path
  pub held_most : (i : ℕ) → i < 12 → count_at_value path.held i ≤ 16
  pub held_past : (i : ℕ) → controls_of p.actuators ≤ i → i < 12 → count_at_value path.held i ≡ 0
  -- besides: past the numbers of the decision, and past the wheels of each node, stands +0
  pub past : (i : ℕ) → packed_len (controls_of p.actuators) ≤ i → i < 193 → at path.z i ≡ plus_zero
  pub spare : (k : ℕ) → k < 17 → (i : ℕ) → p.actuators.wheel_count ≤ i → i < 8 → at (node_at path.nodes k).hw i ≡ plus_zero
  -- every number is finite but the body momentum of node 16, which no step has read
  pub finite_defect : T (finite path.max_defect)
  pub finite_duration : T (finite path.duration)
  pub finite_controls : (k : ℕ) → k < 16 → (i : ℕ) → i < controls_of p.actuators → T (finite (control (controls_of p.actuators) path.z k i))
  pub finite_nodes : (k : ℕ) → k < 17 → FiniteNode (node_at path.nodes k)
  pub finite_momenta : (k : ℕ) → k < 16 → Fine3 (node_at path.nodes k).h

-- ---- what an entry's answer r says, in the specification's numbers: a path of which demand 3 holds, or a refusal beside which the path is blank
pub record Answers (p : Problem) (seed : List Float) (r : Planned) : Type 0 where
  pub given : (path : Path) → Plans.answer r ≡ Given path → Promised p seed path r.runs
  pub refused : (number place runs : ℕ) → Plans.answer r ≡ Refused number place runs → r ≡ Plans.refused (refusal number place) runs
