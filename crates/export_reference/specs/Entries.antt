-- The reference of a problem as declared: what a C entry tells of it, and what it promises. Definitions only.
use Rattle.std.specs.Prelude.{ℕ, ◌≡◌, Bool, List, [], ◌∷◌, Float, length}
use Rattle.export_leaves.specs.Packed.{limit}
use Rattle.export_leaves.specs.Outcomes.{fate_number, fate_place}
use Rattle.problem_numbers.specs.Declared.{problem}
use Rattle.reference.specs.declared.plan.Planned.{Planned}
use Rattle.reference.specs.Plans.{plan, Answer}
use Rattle.reference_checks.specs.Checks.{sample_of}
use Rattle.export_reference.specs.Rows as Rows

-- the reference, of a given duration or of the shortest that the search finds
abbrev pub about : List ℕ → List Float → List Float → Bool → Bool → Float → ℕ → Planned
about c v b limited timed given steps = plan (problem c v b limited) (limit timed given) steps

-- a refusal's number, or 0; its place, the trials, the samples; the duration; the wheels' momenta in the last sample
pub record PlanTold (x : Planned) (n : ℕ) (counts : List ℕ) (duration : Float) (end : List Float) : Type 0 where
  pub number_is : n ≡ fate_number x.fate
  pub counts_are : counts ≡ fate_place x.fate ∷ x.trials ∷ x.samples ∷ []
  pub duration_is : duration ≡ x.reference.duration
  pub end_is : end ≡ Rows.eight (sample_of x.reference x.reference.steps).h []

-- the same by an entry, with the promise of every reference that is given
pub record EntryTold (x : Planned) (n : ℕ) (counts : List ℕ) (duration : Float) (end : List Float) : Type 0 where
  pub plan_told : PlanTold x n counts duration end
  pub answer : Answer x

-- and its rows over those that were lent
pub record ListTold (x : Planned) (out out' : List (List Float)) (written n : ℕ) (counts : List ℕ) (duration : Float) (end : List Float) : Type 0 where
  pub entry_told : EntryTold x n counts duration end
  pub count_is : written ≡ Rows.count x (length out)
  pub rows_are : out' ≡ Rows.written x.reference out (Rows.count x (length out))
