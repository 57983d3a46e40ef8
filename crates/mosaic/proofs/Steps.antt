-- A mosaic's turns, in the code's steps. Assumes nothing.
use Rattle.std.specs.Prelude.{Ok, Err}
use Prim.Native.Nat.{ℕ, ◌<◌, ◌≤◌}
use mathlib.Core.Path.{◌≡◌, refl, sym, ap, ◌∙◌}
use mathlib.Core.Bool.{Bool, true, false, ◌||◌}
use mathlib.Core.List.{List}
use native.Mathlib.Omega.{arith}
use borrow.Author.Tests.{lt-ltb, le-ltb, ltb-false}
use lib.Dec.{ltb}
use lib.ListN.{length}
use lib.Ieee.{Float}
use Rattle.geom.specs.declared.Quat.{Quat}
use Rattle.problem.specs.declared.Problem.{Problem}
use Rattle.planner.specs.Plans as Plans
use Rattle.planner.specs.PlanLaws.{leaves_none}
use Rattle.planner.specs.declared.Planned.{Planned}
use Rattle.mosaic.specs.Mosaics.{Planner, full_runs_value, leg_problem, halted, moved, is_full, opened, planned_by, next_by, count_fate}
use Rattle.mosaic.specs.Turns.{Open, Turned, Advances}
use Rattle.mosaic.specs.WayLaws.{refused_answers}
use Rattle.mosaic.specs.Ways.{planner_by, AnswersBy}
use Rattle.mosaic.specs.declared.Advanced.{Advanced}
use Rattle.mosaic.specs.declared.Cursor.{Cursor}
use Rattle.mosaic.specs.declared.ways.Way.{Way}
use Rattle.common.specs.Refusals.{Fate, refusal, going}
use Rattle.common.specs.declared.Refusal.{Refusal}

-- ---- 23
pub count_few : (n : ℕ) → n < 2 → Err (refusal 23 0) ≡ count_fate n
count_few n h = rw (lt-ltb n 2 h) refl

pub count_many : (n : ℕ) → 2 ≤ n → 64 < n → Err (refusal 23 0) ≡ count_fate n
count_many n h k = rw (le-ltb n 2 h, lt-ltb 64 n k) refl

pub count_fits : (n : ℕ) → 2 ≤ n → n ≤ 64 → going ≡ count_fate n
count_fits n h k = rw (le-ltb n 2 h, le-ltb 64 n k) refl

-- ---- whether there is a further leg
pub full_index : (c : Cursor) → 62 < c.index → true ≡ is_full c
full_index c h = rw (lt-ltb 62 c.index h) refl

pub full_runs : (c : Cursor) → c.index ≤ 62 → ltb full_runs_value c.runs ≡ is_full c
full_runs c h = rw (le-ltb 62 c.index h) refl

neither : (a b : Bool) → a || b ≡ false → (a ≡ false) × (b ≡ false)
neither true b e = let z : true ≡ false = e in (cc, cc)
neither false b e = (refl, e)

pub open_of : (c : Cursor) {b : Bool} → b ≡ is_full c → b ≡ false → Open c
open_of c e f =
    let g = neither (ltb 62 c.index) (ltb full_runs_value c.runs) (sym e ∙ f) in
    record { index = ltb-false _ _ g.0; runs = ltb-false _ _ g.1 }

-- ---- a turn
module _ {way : Way} {p : Problem} {c : Cursor} {from to : Quat} {ws : List Float} where
  -- the next leg was planned
  pub turned : {q : Problem} {r : Planned} {d : Cursor} {exit : List Float} → q ≡ leg_problem p from to c.momenta → r ≡ planner_by way (length ws) q → exit ≡ Plans.leaves r.runs ws
      → AnswersBy way (length ws) q r → d ≡ moved c r → Turned (planner_by way (length ws) (leg_problem p from to c.momenta)) way p c from to ws (record { cursor = d; planned = r }) exit
  turned {q} {r} e f g a h =
      let s : r ≡ planner_by way (length ws) (leg_problem p from to c.momenta) = rw e at f in
      record { planned = s; cursor = h ∙ ap (moved c) s; left = g; answers = rw e at a }

  -- there is none
  pub turned_full : (plan : Planner) {b : Bool} {r : Planned} {d : Cursor} → b ≡ is_full c → b ≡ true → d ≡ halted c (refusal 23 0) 0 → r ≡ Plans.refused (refusal 23 0) 0 → Turned (opened plan p c from to) way p c from to ws (record { cursor = d; planned = r }) ws
  unfolding opened moved
  turned_full plan e f g h =
      let t : is_full c ≡ true = sym e ∙ f in
      record {
        planned = rw t h;
        cursor = rw t g;
        left = rw h (leaves_none ws);
        answers = rw h (refused_answers way (length ws) (leg_problem p from to c.momenta) (refusal 23 0));
      }

  -- there is one
  pub turned_open : (plan : Planner) {b : Bool} {r : Advanced} {exit : List Float} → b ≡ is_full c → b ≡ false → Turned (plan (leg_problem p from to c.momenta)) way p c from to ws r exit → Turned (opened plan p c from to) way p c from to ws r exit
  unfolding opened
  turned_open plan e f t = let g : is_full c ≡ false = sym e ∙ f in rw g t

  -- `next`, where the mosaic goes on
  pub advances : {r : Advanced} {exit : List Float} → c.fate ≡ going → Turned (opened (planner_by way (length ws)) p c from to) way p c from to ws r exit → Advances way p c from to ws r exit
  advances e t = record {
    cursor = t.cursor ∙ sym (ap (λ (f : Fate). next_by f c (planned_by f (planner_by way (length ws)) p c from to)) e);
    planned = t.planned ∙ sym (ap (λ (f : Fate). planned_by f (planner_by way (length ws)) p c from to) e);
    left = t.left;
    answers = t.answers;
  }

  -- and where it has ended
  pub advances_not : {r : Planned} {why : Refusal} → c.fate ≡ Err why → r ≡ Plans.refused why 0 → Advances way p c from to ws (record { cursor = c; planned = r }) ws
  advances_not {r} {why} e h = record {
    cursor = rw e refl;
    planned = rw e h;
    left = rw h (leaves_none ws);
    answers = rw h (refused_answers way (length ws) (leg_problem p from to c.momenta) why);
  }
