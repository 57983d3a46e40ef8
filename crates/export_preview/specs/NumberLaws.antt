-- The numbers of a preview, handed to a start, are the start of that preview. Assumes nothing.
use Rattle.std.specs.Prelude.{ℕ, zero, suc, ◌<◌, ◌≡◌, refl, Bool, true, false, cond, List, Float}
use Rattle.std.proofs.Common.{ap, arith}
use Rattle.common.specs.Lists.{at}
use Rattle.forward.specs.declared.Node.{Node}
use Rattle.problem.specs.declared.Momenta.{Momenta}
use Rattle.forward.specs.Runs.{node_at}
use Rattle.samples.specs.Rows.{row, rows}
use Rattle.sample_laws.specs.Rows.{row_is}
use Rattle.planner.specs.Plans as Plans
use Rattle.planner.specs.declared.Path.{Path}
use Rattle.wheel_momenta.specs.Successive.{last_momenta}
use Rattle.wheel_record.specs.Commits.{same, commit, started, not_started, leading_same}
use Rattle.wheel_record.specs.declared.Started.{Started}
use Rattle.preview.specs.Previews as Previews
use Rattle.preview.specs.declared.Previewed.{Previewed}
use Rattle.export_leaves.specs.Outcomes as Outcomes
use Rattle.export_preview.specs.Numbers as Numbers
use Rattle.common.specs.Refusals.{going}

-- the last momenta, wheel by wheel
pub last_is : (wheels : ℕ) (nodes : List Node) (i : ℕ) → i < 8 → at (Numbers.last wheels (rows nodes)).at i ≡ at (node_at nodes 16).hw i
unfolding row
last_is wheels nodes zero h = ap (λ (v : List Float). at v 14) (row_is nodes 16 (omega arith))
last_is wheels nodes (suc zero) h = ap (λ (v : List Float). at v 15) (row_is nodes 16 (omega arith))
last_is wheels nodes (suc (suc zero)) h = ap (λ (v : List Float). at v 16) (row_is nodes 16 (omega arith))
last_is wheels nodes (suc (suc (suc zero))) h = ap (λ (v : List Float). at v 17) (row_is nodes 16 (omega arith))
last_is wheels nodes (suc (suc (suc (suc zero)))) h = ap (λ (v : List Float). at v 18) (row_is nodes 16 (omega arith))
last_is wheels nodes (suc (suc (suc (suc (suc zero))))) h = ap (λ (v : List Float). at v 19) (row_is nodes 16 (omega arith))
last_is wheels nodes (suc (suc (suc (suc (suc (suc zero)))))) h = ap (λ (v : List Float). at v 20) (row_is nodes 16 (omega arith))
last_is wheels nodes (suc (suc (suc (suc (suc (suc (suc zero))))))) h = ap (λ (v : List Float). at v 21) (row_is nodes 16 (omega arith))
last_is wheels nodes (suc (suc (suc (suc (suc (suc (suc (suc i)))))))) h = absurd (omega arith)

-- what a start leaves on record, its last momenta apart
pub record Agree (s t : Started) : Type 0 where
  pub fate : s.fate ≡ t.fate
  pub count : s.on_record.count ≡ t.on_record.count
  pub each : (i : ℕ) → i < 8 → at s.on_record.at i ≡ at t.on_record.at i

-- a start by its numbers, of a preview that has a path, is the start of that preview
module _ (m : Momenta) (v : Previewed) where
  abbrev by_numbers : Started
  by_numbers =
      Numbers.start m.count m.at (Outcomes.number (Plans.answer v.planned))
      v.began.count v.began.at v.planned.path.wheels (rows v.planned.path.nodes)

  pub start_by_numbers : v.planned.fate ≡ going → Agree by_numbers (Previews.start m v)
  unfolding commit
  start_by_numbers g = rw g (by (same m v.began))
    where
      path : Path
      path = v.planned.path

      not : Started
      not = not_started m (leading_same m v.began)

      by : (b : Bool) → Agree (cond b (started (Numbers.last path.wheels (rows path.nodes))) not) (cond b (started (last_momenta path)) not)
      by true = record { fate = refl; count = refl; each = λ i h. last_is path.wheels path.nodes i h }
      by false = record { fate = refl; count = refl; each = λ i h. refl }
