-- What both entries answer: a path of which demand 3 holds, or a refusal beside which the path is blank. Assumes nothing.
use Rattle.std.specs.Prelude.{◌≡◌, List, ℕ, Float, Ok, Err}
use Rattle.std.proofs.Math.Path.{refl}
use Rattle.std.proofs.Common.{subst, arith}
use Rattle.common.specs.Answer.{Given}
use Rattle.common.specs.Answer as Answers
use Rattle.problem.specs.Problems.{check}
use Rattle.problem.specs.declared.Problem.{Problem}
use Rattle.run_laws.specs.Checked.{FitsP}
use Rattle.search_laws.specs.Fits.{Fit}
use Rattle.planner.specs.Plans as Plans
use Rattle.planner.specs.Promises.{Promised, Answers, own_seed}
use Rattle.planner.specs.Blanks.{Blank}
use Rattle.planner.proofs.RefusalLaws.{plan_blank, plan_from_blank}
use Rattle.planner.specs.declared.Path.{Path}
use Rattle.planner.specs.declared.Planned.{Planned}
use Rattle.planner.specs.PromisesKept.{plan_from_promised, plan_promised}
use Rattle.common.specs.Refusals.{Fate, going}

-- ---- what the entries answer, in the specification's numbers
module _ (r : Planned) where
  given_path : (path : Path) → Plans.answer r ≡ Given path → (r.fate ≡ going) × (r.path ≡ path)
  given_path path h = go r.fate refl
    where
      go : (e : Fate) → r.fate ≡ e → (r.fate ≡ going) × (r.path ≡ path)
      go (Ok _) e = let g : Given r.path ≡ Given path = rw e at h in (e, cc)
      go (Err why) e = let g : Answers.Refused why.number why.place r.runs ≡ Given path = rw e at h in let z : ◌≡◌ {A = ℕ} 0 1 = cc in absurd (omega arith)

  answers : (p : Problem) (seed : List Float) → (r.fate ≡ going → Promised p seed r.path r.runs) → Blank r → Answers p seed r
  answers p seed h b = record {
    given = λ path e. let g = given_path path e in subst (λ (x : Path). Promised p seed x r.runs) g.1 (h g.0);
    refused = b;
  }

module _ (p : Problem) (F : FitsP p) where
  pub plan_from_answers : (duration : Float) (rates torques : List Float) (size : ℕ) → ((Plans.plan_from p duration rates torques size).fate ≡ going → Fit (Plans.seed_of (check p).problem duration torques))
      → Answers p (Plans.seed_of (check p).problem duration torques) (Plans.plan_from p duration rates torques size)
  plan_from_answers duration rates torques size G = answers (Plans.plan_from p duration rates torques size) p (Plans.seed_of (check p).problem duration torques) (λ g. plan_from_promised p F duration rates torques size (G g) g) (plan_from_blank p duration rates torques size)

  pub plan_answers : (size : ℕ) → Answers p (own_seed (check p).problem) (Plans.plan p size)
  plan_answers size = answers (Plans.plan p size) p (own_seed (check p).problem) (plan_promised p F size) (plan_blank p size)
