-- Legs one by one: a cursor that a caller holds goes the way of the whole mosaic. Over any planner of one slew. Assumes nothing.
use Rattle.std.specs.Prelude.{ℕ, zero, suc, ◌+◌, ◌*◌, ◌≤◌, ◌≡◌, false, List, [], ◌∷◌, length, Ok, Err}
use Rattle.std.proofs.Math.Path.{refl, ap}
use Rattle.std.proofs.Common.{sym, ◌∙◌, suc-mul, arith, le-ltb}
use Rattle.std.proofs.Math.Option.{some}
use Rattle.std.proofs.Math.ListN.{get_elem?}
use Rattle.geom.specs.declared.Quat.{Quat}
use Rattle.problem.specs.declared.Momenta.{Momenta}
use Rattle.problem.specs.declared.Problem.{Problem}
use Rattle.planner.specs.declared.Planned.{Planned}
use Rattle.mosaic.specs.Mosaics.{Planner, Flight, most_runs, full_runs_value, leg_problem, moved, is_full, opened, planned_by, planned, next_by, next, leg_from, flown}
use Rattle.mosaic.specs.WayLaws.{runs_most}
use Rattle.mosaic.specs.Ways.{planner_by}
use Rattle.mosaic.specs.declared.Cursor.{Cursor}
use Rattle.mosaic.specs.declared.ways.Way.{Way}
use Rattle.mosaic_laws.specs.Legs.{runs_onto, legal, going_index, flown_next, stays, index_le}
use Rattle.common.specs.Refusals.{Fate, going}

-- ---- a cursor that goes on and is not full plans the leg
module _ (plan : Planner) (p : Problem) (c : Cursor) (from to : Quat) (goes : c.fate ≡ going) (index : c.index ≤ 62) (runs : c.runs ≤ full_runs_value) where
  not_full : is_full c ≡ false
  not_full = rw (le-ltb 62 c.index index, le-ltb full_runs_value c.runs runs) refl

  pub planned_open : planned plan p c from to ≡ plan (leg_problem p from to c.momenta)
  unfolding opened
  planned_open = ap (λ (f : Fate). planned_by f plan p c from to) goes ∙ rw not_full refl

  pub next_open : next plan p c from to ≡ moved c (plan (leg_problem p from to c.momenta))
  next_open = ap (λ (f : Fate). next_by f c (planned plan p c from to)) goes ∙ ap (moved c) planned_open

-- ---- runs of legs that have at most `most_runs` each, as every leg has
runs_bound : (legs : List Planned) (n : ℕ) → ((i : ℕ) (leg : Planned) → get_elem? legs i ≡ some leg → leg.runs ≤ most_runs) → runs_onto n legs ≤ n + length legs * most_runs
runs_bound [] n h = omega arith
runs_bound (leg ∷ legs) n h =
    let a : leg.runs ≤ most_runs = h 0 leg refl in
    let b : runs_onto (n + leg.runs) legs ≤ n + leg.runs + length legs * most_runs = runs_bound legs (n + leg.runs) (λ i l e. h (suc i) l e) in
    let s : suc (length legs) * most_runs ≡ length legs * most_runs + most_runs = suc-mul (length legs) most_runs in
    omega arith

-- ---- ONE BY ONE: `next`, called for the leg at the cursor's index, gives the cursor of the whole mosaic with one leg more, up to 63 legs
module _ (plan : Planner) (p : Problem) (tile : ℕ → Quat) (m : Momenta) (n : ℕ) (most : n ≤ 62) where
  abbrev flight : Flight
  flight = flown plan p tile m n

  goes_on : flight.cursor.fate ≡ going → ((i : ℕ) (leg : Planned) → get_elem? flight.legs i ≡ some leg → leg.runs ≤ most_runs)
      → next plan p flight.cursor (tile flight.cursor.index) (tile (flight.cursor.index + 1)) ≡ (flown plan p tile m (n + 1)).cursor
  goes_on e few =
      let i : flight.cursor.index ≡ n = going_index plan p tile m n e in
      let r : flight.cursor.runs ≤ length flight.legs * most_runs = rw (legal plan p tile m n).runs (omega (arith, runs_bound flight.legs 0 few)) in
      let s : flight.cursor.runs ≤ full_runs_value = omega (arith, (legal plan p tile m n).count) in
      next_open plan p flight.cursor (tile flight.cursor.index) (tile (flight.cursor.index + 1)) e (omega arith) s
      ∙ ap (λ (k : ℕ). moved flight.cursor (leg_from plan p tile k flight.cursor.momenta)) i
      ∙ sym (ap (λ (f : Flight). f.cursor) (flown_next plan p tile m n e))

  by : (f : Fate) → flight.cursor.fate ≡ f → ((i : ℕ) (leg : Planned) → get_elem? flight.legs i ≡ some leg → leg.runs ≤ most_runs)
      → next plan p flight.cursor (tile flight.cursor.index) (tile (flight.cursor.index + 1)) ≡ (flown plan p tile m (n + 1)).cursor
  by (Ok _) e few = goes_on e few
  by (Err why) e few =
      ap (λ (f : Fate). next_by f flight.cursor (planned plan p flight.cursor (tile flight.cursor.index) (tile (flight.cursor.index + 1)))) e
      ∙ sym (ap (λ (f : Flight). f.cursor) (stays plan p tile m n (n + 1) why.number why.place (omega arith) e))

  pub one_by_one : ((i : ℕ) (leg : Planned) → get_elem? flight.legs i ≡ some leg → leg.runs ≤ most_runs)
      → next plan p flight.cursor (tile flight.cursor.index) (tile (flight.cursor.index + 1)) ≡ (flown plan p tile m (n + 1)).cursor
  one_by_one few = by flight.cursor.fate refl few

-- so it is by either way of ours, with no premise
pub one_by_one_by : (way : Way) (size : ℕ) (p : Problem) (tile : ℕ → Quat) (m : Momenta) (n : ℕ) → n ≤ 62
    → next (planner_by way size) p (flown (planner_by way size) p tile m n).cursor (tile (flown (planner_by way size) p tile m n).cursor.index) (tile ((flown (planner_by way size) p tile m n).cursor.index + 1))
    ≡ (flown (planner_by way size) p tile m (n + 1)).cursor
one_by_one_by way size p tile m n most = one_by_one (planner_by way size) p tile m n most (λ i leg e. rw ((legal (planner_by way size) p tile m n).leg i leg e).is (runs_most way size _))
