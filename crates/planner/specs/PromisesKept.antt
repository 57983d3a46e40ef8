-- Demand 3 is kept: by the entry with a caller's seed, and by our own entry. Assumes nothing.
use Rattle.std.specs.Prelude.{◌≡◌, Bool, not, cond, ◌&&◌, List, ℕ, ◌<◌, ◌≤◌, T, ltb, length, Float, Ok, Err}
use Rattle.std.proofs.Math.Path.{refl, ap}
use Rattle.std.proofs.Common.{sym, ◌∙◌, arith, ltb→lt, nltb→le}
use Rattle.std.proofs.Math.Bool.{true, false}
use Rattle.std.specs.Float.{binary64}
use Rattle.std.specs.Float.Ieee.{le, fits, of_bits}
use Rattle.std.specs.Float.Ieee.Scale.{finite}
use Rattle.common.specs.Lists.{at}
use Rattle.float.specs.Ops.{abs}
use Rattle.float_laws.specs.Limits.{Limit, Under, under_exact}
use Rattle.geom.specs.Vec.{tensor, is_positive_value}
use Rattle.actuators.specs.Maps.{is_sized, control_dim}
use Rattle.control_rows.specs.Parts.{body_momentum}
use Rattle.profile.specs.Seeds.{sample_seed}
use Rattle.profile.specs.declared.Seed.{Seed}
use Rattle.problem.proofs.Passed.{passed_sized}
use Rattle.problem.specs.StartLaws.{placed_at}
use Rattle.problem.specs.Problems.{check}
use Rattle.problem.specs.declared.Problem.{Problem}
use Rattle.problem.specs.declared.CheckedProblem.{CheckedProblem}
use Rattle.forward.specs.Decisions.{packed_len}
use Rattle.forward.specs.Reconstruct.{admit, reconstruct}
use Rattle.forward.specs.ReconstructLaws.{admit_narrow}
use Rattle.forward.specs.Runs.{run_of, start, node_of}
use Rattle.forward.specs.StepLaws.{refused_going}
use Rattle.forward.specs.declared.Reconstructed.{Reconstructed}
use Rattle.forward.specs.declared.Run.{Run}
use Rattle.forward.specs.declared.Node.{Node}
use Rattle.seeds.specs.Seeds.{served}
use Rattle.seeds.specs.SeedLaws.{served_narrow}
use Rattle.forward.specs.Runs.{node_at}
use Rattle.residuals.specs.Residuals.{residuals_of}
use Rattle.residuals.specs.MeasuredResiduals.{residuals_by, residuals}
use Rattle.residuals.specs.declared.Measured.{Measured}
use Rattle.scvx.specs.Search as Search
use Rattle.scvx.specs.Search.{search, room}
use Rattle.end_checks.specs.Ends.{end_fate}
use Rattle.run_laws.specs.Values.{goes, FineN}
use Rattle.run_laws.specs.Checked.{FitsP, Ready, check_ready}
use Rattle.run_laws.specs.Paths.{control, rerun}
use Rattle.run_laws.proofs.Residuals.{residuals_count}
use Rattle.run_laws.specs.Runs.{Spare}
use Rattle.search_laws.specs.Answers.{limit_in, Answered, answered}
use Rattle.search_laws.specs.BetterLaws.{better_as}
use Rattle.search_laws.specs.Counts.{runs_most}
use Rattle.search_laws.specs.Declared.{controls_of}
use Rattle.search_laws.specs.DeclaredLaws.{Same, check_same, controls_same, limit_same}
use Rattle.search_laws.specs.Fits.{Fit}
use Rattle.search_laws.specs.OwnSeed.{duration_fits, torques_fit}
use Rattle.search_laws.specs.Seeds.{seed_long, seed_past, seed_fits, seed_projected}
use Rattle.planner.specs.Plans as Plans
use Rattle.planner.specs.HeldKept.{path_held, counts_most, counts_past}
use Rattle.planner.specs.Promises.{PassesByLess, residual_length, Promised, own_seed, own_held}
use Rattle.planner.specs.declared.Planned.{Planned}
use Rattle.common.specs.Refusals.{Fate, refusal, going}

-- ---- from the checked problem's numbers to the user's
passes : (t l k : Float) → l ≡ k → Limit l → Under t l → PassesByLess t k
passes t l k e L U = rw (← e) (record { fine = U.fine; less = under_exact t l L U })

bounded : (n m : ℕ) (z : List Float) (j i : ℕ) (l k : Float) → n ≡ m → l ≡ k → T (le (abs (control n z j i)) l) → T (le (abs (control m z j i)) k)
bounded n m z j i l k e f t = rw (e, f) at t

-- all eight wheel momenta: those of n wheels, and +0 past them
wheels_finite : (n : ℕ) (hw : List Float) → FineN n hw → Spare n hw → FineN 8 hw
wheels_finite n hw f g i h = go (ltb i n) (ltb→lt i n) (nltb→le i n)
  where
    go : (b : Bool) → (T b → i < n) → (T (not b) → n ≤ i) → T (finite (at hw i))
    go true x y = f i (x tt)
    go false x y = rw (g i (y tt) h) (unfold of_bits in tt)

-- the user's own call of `residuals` on a problem that is admitted is that of the checked problem, after one run
measure : (p : Problem) (z : List Float) → (admit p).fate ≡ going → residuals p z ≡ record { runs = 1; residuals = residuals_of (admit p).problem z }
unfolding residuals
measure p z h = ap (λ (e : Fate). residuals_by e (admit p).problem z) h

from_goes : (e : Fate) → T (goes e) → e ≡ going
from_goes (Ok _) t = refl
from_goes (Err why) t = absurd t

-- what is promised of an answer with a path, and where its search stays at the seed its counts are the seed's
abbrev Held : Problem → List Float → List ℕ → Planned → Type 0
Held p seed counts r = Promised p seed r.path r.runs × ((search (check p).problem seed).tried ≡ false → r.path.held ≡ counts)

-- ---- a problem that passed the checks, with actuators that are served
module _ (p : Problem) (F : FitsP p) (passed : (check p).fate ≡ going) (serves : served (check p).problem.map ≡ going) where
  abbrev c : CheckedProblem
  c = (check p).problem

  ready : Ready c
  ready = check_ready p F (rw passed tt)

  same : Same p c
  same = check_same p (rw passed tt)

  sized : is_sized c.map ≡ true
  sized = passed_sized p passed

  narrow : control_dim c.map ≤ 12
  narrow = served_narrow c.map sized serves

  row : control_dim c.map ≡ controls_of p.actuators
  row = controls_same p c.map same.map sized

  -- the user's own call of the step law is one run of the checked problem
  once : (z : List Float) → reconstruct p z ≡ record { runs = 1; run = run_of c z }
  once z = let e : check p ≡ admit p = admit_narrow p refl refl narrow in rerun p z (rw (← e) passed) ∙ rw (← e) refl

  -- and so is that of the residuals
  measured_once : (z : List Float) → residuals p z ≡ record { runs = 1; residuals = residuals_of c z }
  measured_once z = let e : check p ≡ admit p = admit_narrow p refl refl narrow in measure p z (rw (← e) passed) ∙ rw (← e) refl

  measured_goes : (z : List Float) → T (goes (residuals_of c z).fate) → (residuals p z).residuals.fate ≡ going
  measured_goes z t = ap (λ (x : Measured). x.residuals.fate) (measured_once z) ∙ from_goes (residuals_of c z).fate t

  length_same : (z : List Float) → T (goes (residuals_of c z).fate) → Search.residual_length c z ≡ residual_length p z
  unfolding Search.width
  length_same z t = rw (measured_once z, residuals_count c z t) refl

  module _ (duration : Float) (torques : List Float) where
    abbrev seed : List Float
    seed = Plans.seed_of c duration torques

    abbrev counts : List ℕ
    counts = Plans.seed_held_of c duration torques

    wide : packed_len (control_dim c.map) ≤ length seed
    wide = omega (arith, narrow, seed_long c.map narrow duration torques ready.map c.torque_limit ready.limits)

    pub fitted : T (fits binary64 duration) → Fit torques → Fit seed
    fitted = seed_fits c.map narrow duration torques ready.map c.torque_limit ready.limits

    module _ (G : Fit seed) where
      found : T (goes (search c seed).fate) → T (goes (end_fate c (search c seed).run)) → Promised p seed (Plans.path_of c (search c seed) counts) (search c seed).runs
      found t e = record {
        duration = refl;
        width = row;
        wheels = same.map.wheels;
        rerun_goes = rw (once z) A.went;
        rerun_once = rw (once z) refl;
        rerun_nodes = ap (λ (x : Reconstructed). x.run.nodes) (once z) ∙ sym (ap (λ (x : Run). x.nodes) A.is);
        rerun_defect = ap (λ (x : Reconstructed). x.run.defect) (once z) ∙ sym (ap (λ (x : Run). x.defect) A.is);
        start_count = same.count;
        start_momenta = λ i l. ap (λ (v : List Float). at v i) (starts.0 ∙ same.momenta) ∙ placed_at p.actuators.wheel_count p.momenta.at i (omega (arith, ready.map.wheels, same.map.wheels)) l;
        start_stored = starts.1 ∙ rw (same.map.wheels, starts.0) refl;
        controls = λ k h i l. bounded (control_dim c.map) (controls_of p.actuators) z k i _ _ row (ap (λ (v : List Float). limit_in c.map v i) same.limit ∙ limit_same p c.map same.map sized i) (A.controls k h i (rw row l));
        end_error = record { qf = c.qf; qf_is = same.qf; x = A.error.x; y = A.error.y; z = A.error.z; is = A.error.is; small = A.error_small };
        end_rate = A.rate_small;
        torques = λ k h i l. passes _ _ _ (ap (λ (v : List Float). at v i) same.limit) (ready.limits i l) (A.torques k h i l);
        momenta = λ k h i l. let m : i < c.map.wheel_count = rw same.map.wheels l in passes _ _ _ (same.map.tables.momenta.is i l) (ready.map.momenta i m) (A.momenta k h i m);
        residual = better_as (Search.residual_length c) (residual_length p) seed z (length_same seed A.seed_measured) (length_same z A.measured) A.better;
        measured = measured_goes z A.measured;
        seed_measured = measured_goes seed A.seed_measured;
        runs = refl;
        bound = rw (← row) (runs_most c seed);
        held = path_held c seed counts t;
        held_most = counts_most c narrow seed duration torques t;
        held_past = λ i h k. counts_past c narrow seed duration torques t i (rw row h) k;
        past = λ i h k. let n : packed_len (control_dim c.map) ≤ i = rw row h in A.sound.tail.past i n ∙ seed_past c.map narrow duration torques ready.map c.torque_limit ready.limits i n k;
        spare = λ k h i l m. A.spare k h i (rw same.map.wheels l) m;
        finite_defect = A.defect;
        finite_duration = A.path.duration;
        finite_controls = λ k h i l. rw (← row) (A.path.controls k h i (rw row l));
        finite_nodes = λ k h. let n = A.path.nodes k h in record {
          t = A.path.times k h;
          q = (n.q.w.fine, n.q.x.fine, n.q.y.fine, n.q.z.fine);
          w = n.w;
          tau = n.tau;
          hw = wheels_finite c.map.wheel_count (node_at (search c seed).run.nodes k).hw (λ i l. (A.momenta k h i l).fine) (A.spare k h);
        };
        finite_momenta = A.path.stored;
      }
        where
          z : List Float
          z = (search c seed).z

          A : Answered c seed z (search c seed).run
          A = answered c ready seed wide (seed_projected c.map narrow duration torques ready.map c.torque_limit ready.limits G) t e

          starts : ((node_at (search c seed).run.nodes 0).hw ≡ c.momenta) × ((node_at (search c seed).run.nodes 0).h ≡ body_momentum c.map.wheel_axes c.map.wheel_count c.momenta)
          starts = unfold node_of start in (ap (λ (n : Node). n.hw) A.path.first, ap (λ (n : Node). n.h) A.path.first)

      ends : (b : Fate) → end_fate c (search c seed).run ≡ b → T (goes (search c seed).fate) → (Plans.ended_by_value b c (search c seed) counts).fate ≡ going → Held p seed counts (Plans.ended_by_value b c (search c seed) counts)
      ends (Ok _) e t g = (found t (rw e tt), λ h. rw h refl)
      ends (Err why) e t g = absurd (refused_going g)

      finds : (a : Fate) → (search c seed).fate ≡ a → (Plans.found_by a c (search c seed) counts).fate ≡ going → Held p seed counts (Plans.found_by a c (search c seed) counts)
      finds (Ok _) e g = ends (end_fate c (search c seed).run) refl (rw e tt) g
      finds (Err why) e g = absurd (refused_going g)

      searched : (a b : Bool) → (cond a (cond b (Plans.refused (refusal 9 0) 0) (Plans.answered c (search c seed) counts)) (Plans.refused (refusal 10 0) 0)).fate ≡ going
          → Held p seed counts (cond a (cond b (Plans.refused (refusal 9 0) 0) (Plans.answered c (search c seed) counts)) (Plans.refused (refusal 10 0) 0))
      unfolding Plans.answered
      searched true true g = absurd (refused_going g)
      searched true false g = finds (search c seed).fate refl g
      searched false b g = absurd (refused_going g)

      seeds : (counted : Bool) (size : ℕ) → (Plans.seeded c counted duration torques size).fate ≡ going → Held p seed counts (Plans.seeded c counted duration torques size)
      unfolding Plans.seeded
      seeds counted size g = searched (counted && is_positive_value duration) (ltb size (room c)) g

-- ---- a problem that passed the checks
module _ (p : Problem) (F : FitsP p) (passed : (check p).fate ≡ going) (duration : Float) (torques : List Float) where
  abbrev q : CheckedProblem
  q = (check p).problem

  with_seed_law : (counted : Bool) (size : ℕ) → (served q.map ≡ going → Fit (Plans.seed_of q duration torques)) → (Plans.with_seed q counted duration torques size).fate ≡ going
      → Held p (Plans.seed_of q duration torques) (Plans.seed_held_of q duration torques) (Plans.with_seed q counted duration torques size)
  unfolding Plans.with_seed
  with_seed_law counted size G g = go (served q.map) refl g
    where
      go : (e : Fate) → served q.map ≡ e → (Plans.served_by e q counted duration torques size).fate ≡ going → Held p (Plans.seed_of q duration torques) (Plans.seed_held_of q duration torques) (Plans.served_by e q counted duration torques size)
      go (Ok _) h g = seeds p F passed h duration torques (G h) counted size g
      go (Err why) h g = absurd (refused_going g)

-- ---- DEMAND 3 of the entry with a caller's seed: f64 holds the problem's numbers and those of the seed's decision
module _ (p : Problem) (F : FitsP p) where
  from_whole : (duration : Float) (rates torques : List Float) (size : ℕ) → Fit (Plans.seed_of (check p).problem duration torques) → (Plans.plan_from p duration rates torques size).fate ≡ going
      → Held p (Plans.seed_of (check p).problem duration torques) (Plans.seed_held_of (check p).problem duration torques) (Plans.plan_from p duration rates torques size)
  unfolding Plans.plan_from
  from_whole duration rates torques size G g = go (check p).fate refl g
    where
      go : (e : Fate) → (check p).fate ≡ e → (Plans.plan_from_by e (check p).problem duration rates torques size).fate ≡ going
          → Held p (Plans.seed_of (check p).problem duration torques) (Plans.seed_held_of (check p).problem duration torques) (Plans.plan_from_by e (check p).problem duration rates torques size)
      go (Ok _) h g = with_seed_law p F h duration torques (Plans.counted rates torques) size (λ s. G) g
      go (Err why) h g = absurd (refused_going g)

  pub plan_from_promised : (duration : Float) (rates torques : List Float) (size : ℕ) → Fit (Plans.seed_of (check p).problem duration torques) → (Plans.plan_from p duration rates torques size).fate ≡ going
      → Promised p (Plans.seed_of (check p).problem duration torques) (Plans.plan_from p duration rates torques size).path (Plans.plan_from p duration rates torques size).runs
  plan_from_promised duration rates torques size G g = (from_whole duration rates torques size G g).0

  -- a path whose search stays at the caller's seed has the counts of the seed's allocated rows
  pub plan_from_held : (duration : Float) (rates torques : List Float) (size : ℕ) → Fit (Plans.seed_of (check p).problem duration torques) → (Plans.plan_from p duration rates torques size).fate ≡ going
      → (search (check p).problem (Plans.seed_of (check p).problem duration torques)).tried ≡ false → (Plans.plan_from p duration rates torques size).path.held ≡ Plans.seed_held_of (check p).problem duration torques
  plan_from_held duration rates torques size G g = (from_whole duration rates torques size G g).1

  -- where f64 holds the caller's numbers, it holds those of the decision
  pub caller_fits : (duration : Float) (torques : List Float) → (check p).fate ≡ going → served (check p).problem.map ≡ going → T (fits binary64 duration) → Fit torques → Fit (Plans.seed_of (check p).problem duration torques)
  caller_fits duration torques h s = fitted p F h s duration torques

  -- ---- DEMAND 3 of our own entry: f64 holds the problem's numbers
  own_whole : (size : ℕ) → (Plans.plan p size).fate ≡ going → Held p (own_seed (check p).problem) (own_held (check p).problem) (Plans.plan p size)
  unfolding Plans.plan Plans.with_profile
  own_whole size g = go (check p).fate refl g
    where
      c : CheckedProblem
      c = (check p).problem

      s : Seed
      s = sample_seed (Plans.profiled c).profile

      own : (check p).fate ≡ going → served c.map ≡ going → Fit (own_seed c)
      own h k = caller_fits s.duration s.torques h k (unfold Plans.profiled in duration_fits c.q0 (tensor c.inertia) c.torque_limit c.slew c.qf c.tie_tolerance) (torques_fit (Plans.profiled c).profile 17)

      profile : (e : Fate) → (check p).fate ≡ going → (Plans.profiled_by e c (Plans.profiled c).profile size).fate ≡ going → Held p (own_seed c) (own_held c) (Plans.profiled_by e c (Plans.profiled c).profile size)
      profile (Ok _) h g = with_seed_law p F h s.duration s.torques true size (own h) g
      profile (Err why) h g = absurd (refused_going g)

      go : (e : Fate) → (check p).fate ≡ e → (Plans.plan_by e c size).fate ≡ going → Held p (own_seed c) (own_held c) (Plans.plan_by e c size)
      go (Ok _) h g = profile (Plans.profiled c).fate h g
      go (Err why) h g = absurd (refused_going g)

  pub plan_promised : (size : ℕ) → (Plans.plan p size).fate ≡ going → Promised p (own_seed (check p).problem) (Plans.plan p size).path (Plans.plan p size).runs
  plan_promised size g = (own_whole size g).0

  -- a path whose search stays at our own seed has the counts of the seed's allocated rows
  pub plan_held : (size : ℕ) → (Plans.plan p size).fate ≡ going → (search (check p).problem (own_seed (check p).problem)).tried ≡ false → (Plans.plan p size).path.held ≡ own_held (check p).problem
  plan_held size g = (own_whole size g).1
