-- Both entries under previews and starts, in any sequence: the laws of sequences for the planner's own seed and a caller's, and the momenta at node 0 of a path that is started. Assumes nothing.
use Rattle.std.specs.Prelude.{ℕ, ◌<◌, ◌≤◌, ◌≡◌, refl, true, List, Float}
use Rattle.std.proofs.Common.{sym, ◌∙◌}
use Rattle.std.proofs.Math.Option.{some}
use Rattle.std.proofs.Math.ListN.{get_elem?}
use Rattle.common.specs.Lists.{at}
use Rattle.problem.specs.declared.Momenta.{Momenta}
use Rattle.problem.specs.declared.Problem.{Problem}
use Rattle.forward.specs.Runs.{node_at}
use Rattle.planner.specs.Plans as Plans
use Rattle.planner.specs.Promises.{Answers}
use Rattle.planner.specs.declared.Path.{Path}
use Rattle.planner.specs.declared.Planned.{Planned}
use Rattle.wheel_momenta.specs.Successive.{with_momenta}
use Rattle.wheel_record.specs.Commits.{same}
use Rattle.wheel_record.specs.CommitLaws.{same_alike}
use Rattle.preview.specs.Previews.{preview, preview_from, start}
use Rattle.preview.specs.declared.Previewed.{Previewed}
use Rattle.preview_laws.specs.Events.{Event, opened, ask, finally, latest, replies, requests}
use Rattle.preview_laws.specs.EventLaws.{record_latest, start_begun, started_from}
use Rattle.preview_laws.specs.SameStarts.{plan_same, plan_from_same}
use Rattle.common.specs.Refusals.{going}

-- a request: a problem, a caller's seed or none, and the size of the lent workspace
pub data Request : Type 0 where
  Own : Problem → ℕ → Request
  Seeded : Problem → Float → List Float → List Float → ℕ → Request

abbrev pub planned : Request → Momenta → Planned
planned (Own p size) m = Plans.plan (with_momenta p m) size
planned (Seeded p duration rates torques size) m = Plans.plan_from (with_momenta p m) duration rates torques size

-- what the code's previews are
pub ask_own : (m : Momenta) (p : Problem) (size : ℕ) → ask planned m (Own p size) ≡ preview m p size
ask_own m p size = refl

pub ask_seeded : (m : Momenta) (p : Problem) (duration : Float) (rates torques : List Float) (size : ℕ) → ask planned m (Seeded p duration rates torques size) ≡ preview_from m p duration rates torques size
ask_seeded m p duration rates torques size = refl

-- THE RECORD after any previews and starts: the last momenta of the latest path started, or the first record where none was
pub record_is_latest : (m : Momenta) (es : List (Event Request)) → (finally planned (opened m) es).held ≡ latest m (replies planned (opened m) es)
record_is_latest m es = record_latest planned (opened m) es

-- STARTED: after any previews and starts, a path that is started is what the planner gives, from the momenta now on record, for the request that was asked
wheels_only : (q : Request) (m n : Momenta) → same m n ≡ true → planned q m ≡ planned q n
wheels_only (Own p size) m n e = plan_same m n e p size
wheels_only (Seeded p duration rates torques size) m n e = plan_from_same m n e p duration rates torques size

pub started_as_planned : (m : Momenta) (es : List (Event Request)) (i : ℕ) (v : Previewed) → get_elem? (finally planned (opened m) es).asks i ≡ some v → (start (finally planned (opened m) es).held v).fate ≡ going
    → (q : Request) × (get_elem? (requests es) i ≡ some q) × (planned q (finally planned (opened m) es).held ≡ v.planned)
started_as_planned = started_from planned wheels_only

-- BEGINS: as many wheels as the momenta m, and node 0 has them bit for bit
pub record Begins (m : Momenta) (path : Path) : Type 0 where
  pub count : path.wheels ≡ m.count
  pub most : m.count ≤ 8
  pub each : (i : ℕ) → i < m.count → at (node_at path.nodes 0).hw i ≡ at m.at i

-- a preview that the planner answered, as `preview` and `preview_from` ensure of theirs: where it is started, whenever that is, its path begins with what is then on record
pub started_begins : (m : Momenta) (v : Previewed) (p : Problem) (seed : List Float) → Answers (with_momenta p v.began) seed v.planned → (start m v).fate ≡ going → Begins m v.planned.path
started_begins m v p seed A g =
    let B = start_begun m v g in
    let S = same_alike m v.began B.alike in
    let P = A.given v.planned.path (rw B.planned refl) in
    let wheels : m.count ≡ p.actuators.wheel_count = S.count ∙ P.start_count in
    record {
      count = P.wheels ∙ sym wheels;
      most = S.most;
      each = λ i h. P.start_momenta i (rw (← wheels) h) ∙ sym (S.each i h);
    }
