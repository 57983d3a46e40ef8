-- How the outcome of a stage follows from that of the stage before. Assumes nothing.
use Rattle.std.specs.Prelude.{ℕ, ◌≡◌, refl, Bool, List, Float}
use Rattle.std.proofs.Common.{sym, ap, subst, ◌∙◌}
use Rattle.profile.specs.Seeds.{sample_seed}
use Rattle.profile.specs.declared.Profiled.{Profiled}
use Rattle.profile.specs.declared.Seed.{Seed}
use Rattle.problem.specs.Problems.{check}
use Rattle.problem.specs.declared.Checked.{Checked}
use Rattle.problem.specs.declared.CheckedProblem.{CheckedProblem}
use Rattle.problem.specs.declared.Problem.{Problem}
use Rattle.forward.specs.StepLaws.{refused_going}
use Rattle.search_laws.specs.Fits.{Fit}
use Rattle.planner.specs.Plans as Plans
use Rattle.planner.specs.PlanLaws.{leaves_none}
use Rattle.planner.specs.Promises.{own_seed}
use Rattle.planner.specs.declared.Planned.{Planned}
use Rattle.planner.specs.Outcomes.{Outcome, Entry}
use Rattle.common.specs.Refusals.{going}
use Rattle.common.specs.declared.Refusal.{Refusal}

-- before a run: a refusal, and the workspace as it was
pub refusal : {is : Planned} (ws : List Float) {z : List Float} {r : Planned} {why : Refusal} → r ≡ Plans.refused why 0 → Plans.refused why 0 ≡ is → Outcome is ws z r ws
refusal ws e f = record { same = e ∙ f; left = rw e (leaves_none ws); held = λ g. absurd (refused_going (rw e at g)) }

-- what the next stage does is this one's outcome
pub outcome_as : {was is : Planned} {ws z : List Float} {r : Planned} {exit : List Float} → Outcome was ws z r exit → was ≡ is → Outcome is ws z r exit
outcome_as o e = record { same = o.same ∙ e; left = o.left; held = o.held }

-- our own seed, in the code's steps
pub profiled_as : (p : CheckedProblem) (size : ℕ) {ws : List Float} {r : Planned} {exit : List Float} {made : Profiled} {s : Seed} → made ≡ Plans.profiled p → made.fate ≡ going → s ≡ sample_seed made.profile
    → Outcome (Plans.seeded_by p s size) ws (Plans.seed_of p s.duration s.torques) r exit → Outcome (Plans.with_profile p size) ws (own_seed p) r exit
unfolding Plans.with_profile
profiled_as p size e f g o = outcome_as (rw (g, e) at o) (rw (rw e at f) refl)

-- a caller's seed, in the code's steps
pub from_as : (p : Problem) (duration : Float) (rates torques : List Float) (size : ℕ) {ws : List Float} {r : Planned} {exit : List Float} {c : Checked} {b : Bool} → c ≡ check p → c.fate ≡ going → b ≡ Plans.counted rates torques
    → Outcome (Plans.with_seed c.problem b duration torques size) ws (Plans.seed_of c.problem duration torques) r exit → Outcome (Plans.plan_from p duration rates torques size) ws (Plans.seed_of (check p).problem duration torques) r exit
unfolding Plans.plan_from
from_as p duration rates torques size e f g o = outcome_as (rw (g, e) at o) (rw (rw e at f) refl)

pub entry_refused : {is : Planned} (P : Planned → Type 0) (ws z : List Float) {r : Planned} {why : Refusal} → r ≡ Plans.refused why 0 → Plans.refused why 0 ≡ is → ((is.fate ≡ going → Fit z) → P is) → Entry is P ws r ws
entry_refused P ws z e f h = (e ∙ f, (rw e (leaves_none ws), subst P (sym (e ∙ f)) (h (λ g. absurd (refused_going (rw (← f) at g))))))

pub entry_as : {is : Planned} (P : Planned → Type 0) {ws z : List Float} {r : Planned} {exit : List Float} → Outcome is ws z r exit → ((is.fate ≡ going → Fit z) → P is) → Entry is P ws r exit
entry_as P o h = (o.same, (o.left, subst P (sym o.same) (h (λ g. o.held (ap (λ (x : Planned). x.fate) o.same ∙ g)))))
