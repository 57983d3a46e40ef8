-- What a decision is that the search found and the end checks let pass. Assumes nothing.
use Rattle.std.specs.Prelude.{◌≡◌, refl, List, [], ◌∷◌, ℕ, ◌<◌, ◌≤◌, T, length, Float, Ok, Err}
use Rattle.std.proofs.Common.{arith}
use Rattle.std.specs.Float.{binary64}
use Rattle.std.specs.Float.Ieee.{le, fits, of_bits}
use Rattle.std.specs.Float.Ieee.Scale.{finite}
use Rattle.common.specs.Lists.{at}
use Rattle.float.specs.Ops.{abs}
use Rattle.float_laws.specs.Finite.{finite_number}
use Rattle.float_laws.specs.Limits.{Under}
use Rattle.float_laws.specs.Order.{Held, held}
use Rattle.geom.specs.Quats.{norm3}
use Rattle.actuators.specs.Maps.{control_dim}
use Rattle.actuators.specs.declared.ActuatorMap.{ActuatorMap}
use Rattle.control_limits.specs.Limits.{limit_of}
use Rattle.controls.specs.Controls.{rig_of}
use Rattle.problem.specs.declared.CheckedProblem.{CheckedProblem}
use Rattle.forward.specs.Decisions.{packed_len}
use Rattle.forward.specs.Runs.{run_of}
use Rattle.forward.specs.declared.Run.{Run}
use Rattle.forward.specs.Runs.{node_at}
use Rattle.residuals.specs.Residuals.{error_of, residuals_of}
use Rattle.scvx.specs.Search.{search, searched, residual_length}
use Rattle.end_checks.specs.Ends as Ends
use Rattle.run_laws.specs.Values.{goes}
use Rattle.run_laws.specs.Checked.{Ready}
use Rattle.run_laws.specs.Defects.{grounded_finite}
use Rattle.run_laws.specs.Runs.{Spare}
use Rattle.run_laws.specs.Paths.{Path, control}
use Rattle.run_laws.proofs.Paths.{run_path}
use Rattle.run_laws.specs.Errors.{TurnIn, error_in_law, length_test}
use Rattle.run_laws.specs.Bounds.{torque_under, momentum_under}
use Rattle.run_laws.specs.Decisions.{Projected, control_small}
use Rattle.run_laws.proofs.Residuals.{residuals_go}
use Rattle.search_laws.specs.Keeps.{search_gone}
use Rattle.search_laws.specs.Begun.{seed_measured}
use Rattle.search_laws.specs.Better.{Better}
use Rattle.search_laws.specs.BetterLaws.{searched_better}
use Rattle.search_laws.specs.Decisions.{Sound, searched_sound}
use Rattle.search_laws.specs.Ends.{Checked, ends_checked}
use Rattle.common.specs.Refusals.{Fate, going}

-- control i's limit in a row of the map m, with the torque limits box
abbrev pub limit_in : ActuatorMap → List Float → ℕ → Float
limit_in m box i = limit_of (rig_of m) m.wheel_torques m.thruster_torques box i

-- the decision z that is found, and its run, which passes the end checks
pub record Answered (p : CheckedProblem) (seed : List Float) (z : List Float) (run : Run) : Type 0 where
  -- its run is that of its own decision
  pub went : (run_of p z).fate ≡ going
  pub is : run ≡ run_of p z
  -- every control is at most its limit in size
  pub controls : (k : ℕ) → k < 16 → (i : ℕ) → i < control_dim p.map → T (le (abs (control (control_dim p.map) z k i)) (limit_in p.map p.torque_limit i))
  -- the turn that is left at the end, and the rate there: their computed lengths are at most 0.0001
  pub error : TurnIn (error_of (node_at run.nodes 16).q p.qf)
  pub error_small : T (le (norm3 (error.x ∷ error.y ∷ error.z ∷ [])) Ends.tolerance)
  pub rate_small : T (le (norm3 (node_at run.nodes 16).w) Ends.tolerance)
  -- the torques and the wheels' momenta of all 17 nodes against their limits, as exact numbers
  pub torques : (k : ℕ) → k < 17 → (i : ℕ) → i < 3 → Under (at (node_at run.nodes k).tau i) (at p.torque_limit i)
  pub momenta : (k : ℕ) → k < 17 → (i : ℕ) → i < p.map.wheel_count → Under (at (node_at run.nodes k).hw i) (at p.map.wheel_momenta i)
  -- what is finite in its numbers and nodes
  pub path : Path p z run
  pub defect : T (finite run.defect)
  -- past the wheels stands +0
  pub spare : (k : ℕ) → k < 17 → Spare p.map.wheel_count (node_at run.nodes k).hw
  -- it is the seed's decision, or of a smaller residual length
  pub better : Better (residual_length p) seed z
  -- the residuals of both are there
  pub measured : T (goes (residuals_of p z).fate)
  pub seed_measured : T (goes (residuals_of p seed).fate)
  -- past its numbers stands what the seed's has there
  pub sound : Sound p seed z

went_on : (e : Fate) → T (goes e) → e ≡ going
went_on (Ok _) t = refl
went_on (Err why) t = absurd t

end_held : Held binary64 Ends.tolerance
end_held = held (unfold fits of_bits in tt) (unfold of_bits in tt)

module _ (p : CheckedProblem) (R : Ready p) (seed : List Float) (long : packed_len (control_dim p.map) ≤ length seed) (P : Projected p.map p.torque_limit seed) where
  -- over the decision and the run
  module _ (z : List Float) (S : Sound p seed z) (B : Better (residual_length p) seed z) (N : T (goes (residuals_of p seed).fate)) (t : T (goes (run_of p z).fate)) (e : T (goes (Ends.end_fate p (run_of p z)))) where
    path : Path p z (run_of p z)
    path = run_path p z R S.projected.fit t

    turn : TurnIn (error_of (node_at (run_of p z).nodes 16).q p.qf)
    turn = error_in_law (node_at (run_of p z).nodes 16).q p.qf (path.nodes 16 (omega arith)).q R.qf

    checked : Checked p (run_of p z) turn.x turn.y turn.z
    checked = ends_checked p (run_of p z) turn.x turn.y turn.z turn.is e

    answers : Answered p seed z (run_of p z)
    answers = record {
      went = went_on (run_of p z).fate t;
      is = refl;
      controls = λ k h i l. control_small p.map R.map p.torque_limit R.limits z S.projected k h i l (finite_number (control (control_dim p.map) z k i) (path.controls k h i l));
      error = turn;
      error_small = length_test (turn.x ∷ turn.y ∷ turn.z ∷ []) turn.fine Ends.tolerance end_held checked.error;
      rate_small = length_test (node_at (run_of p z).nodes 16).w (path.nodes 16 (omega arith)).w Ends.tolerance end_held checked.rate;
      torques = λ k h. let n = path.nodes k h in torque_under (node_at (run_of p z).nodes k).tau p.torque_limit n.tau n.tau_fits R.limits (checked.nodes k h).torque;
      momenta = λ k h. let n = path.nodes k h in momentum_under p.map.wheel_momenta p.map.wheel_count (node_at (run_of p z).nodes k).hw n.hw R.map.momenta (checked.nodes k h).momentum;
      path = path;
      defect = grounded_finite (run_of p z).defect Ends.defect_tolerance (unfold of_bits in tt) path.defect checked.defect;
      spare = λ k h. (path.nodes k h).spare;
      better = B;
      measured = residuals_go p z R S.projected.fit t;
      seed_measured = N;
      sound = S;
    }

  -- ANSWERED: what the search found and the end checks let pass
  pub answered : T (goes (search p seed).fate) → T (goes (Ends.end_fate p (search p seed).run)) → Answered p seed (search p seed).z (search p seed).run
  answered t e =
      let G = search_gone p seed t in
      rw (G.z, G.run) (answers (searched p seed).candidate.z (searched_sound p R seed long P) (searched_better p seed) (seed_measured p seed t) G.went (rw G.run at e))
