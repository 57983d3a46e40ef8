-- The whole mosaic in the code's steps: k legs are answered, their rows stand in the lent lists, and the mosaic goes on. Laws that assume nothing.
use Rattle.std.specs.Prelude.{ℕ, ◌+◌, ◌*◌, ◌<◌, ◌≤◌, length, set, Float, Err}
use Rattle.std.proofs.Math.Path.{◌≡◌, refl, ap}
use Rattle.std.proofs.Common.{sym, ◌∙◌, add-zero, arith}
use mathlib.Core.List.{List, [], ◌∷◌, ◌++◌}
use Rattle.std.proofs.Math.Option.{some}
use Rattle.std.proofs.Math.ListN.{get_elem?}
use Rattle.common.specs.Iter.{iter}
use Rattle.geom.specs.declared.Quat.{Quat}
use Rattle.problem.specs.declared.Momenta.{Momenta}
use Rattle.problem.specs.declared.Problem.{Problem}
use Rattle.planner.specs.PlanLaws.{leaves_none}
use Rattle.planner.proofs.PlanLaws.{leaves_length, leaves_twice}
use Rattle.planner.specs.Plans.{leaves}
use Rattle.planner.specs.declared.Planned.{Planned}
use Rattle.mosaic.specs.Mosaics.{Planner, Flight, most_runs, full_runs_value, start, took, halted, moved, added_by, leg_problem, leg_from, flown, momenta_at}
use Rattle.mosaic.specs.Turns.{LegPromised, Advances}
use Rattle.mosaic.specs.WayLaws.{runs_most}
use Rattle.mosaic.specs.Ways.{planner_by}
use Rattle.mosaic.specs.declared.Advanced.{Advanced}
use Rattle.mosaic.specs.declared.Cursor.{Cursor}
use Rattle.mosaic.specs.declared.ways.Way.{Way}
use Rattle.mosaic_laws.specs.Legs.{legal, going_index, flown_next, stays, each_more}
use Rattle.mosaic_laws.specs.Turns.{planned_open, next_open}
use Rattle.whole_mosaic.specs.Filled.{Filled}
use Rattle.whole_mosaic.specs.Layout as Layout
use Rattle.whole_mosaic.specs.Layout.{leg_rows}
use Rattle.common.specs.Refusals.{Fate, refusal, going}
use Rattle.common.specs.declared.Refusal.{Refusal}

-- ---- a row more
pub put_row_law : {A : Type 0} (f : Planned → A) (legs : List Planned) (leg : Planned) (out : List A) → length legs < length out → set (leg_rows f legs out) (length legs) (f leg) ≡ leg_rows f (legs ++ leg ∷ []) out
put_row_law f [] leg [] h = absurd (omega arith)
put_row_law f [] leg (x ∷ out) h = refl
put_row_law f (l ∷ legs) leg [] h = absurd (omega arith)
put_row_law {A} f (l ∷ legs) leg (x ∷ out) h = ap (λ (v : List A). f l ∷ v) (put_row_law f legs leg out (omega arith))

row_as : {A : Type 0} (f : Planned → A) (legs : List Planned) (k : ℕ) → length legs ≡ k → (leg : Planned) (out out' : List A) → out' ≡ leg_rows f legs out → k < length out → set out' k (f leg) ≡ leg_rows f (legs ++ leg ∷ []) out
row_as f legs k n leg out out' e h = rw (e, ← n) (put_row_law f legs leg out (omega arith))

-- demand 3 of a leg, by its place
promised_as : (way : Way) (size : ℕ) (p : Problem) (tile : ℕ → Quat) (m : Momenta) (legs : List Planned) (k : ℕ) (from to : Quat) (n : Momenta) (leg : Planned) → length legs ≡ k → from ≡ tile k → to ≡ tile (k + 1) → n ≡ momenta_at m legs k
    → LegPromised way size p from to n leg → LegPromised way size p (tile (length legs)) (tile (length legs + 1)) (momenta_at m legs (length legs)) leg
promised_as way size p tile m legs k from to n leg e f g h x = rw (e, ← f, ← g, ← h) x

-- a mosaic begins with its own momenta
pub start_own : {c : Cursor} {m : Momenta} → c ≡ start m → c ≡ start c.momenta
start_own e = e ∙ ap start (sym (ap (λ (x : Cursor). x.momenta) e))

module _ (way : Way) (p : Problem) (tile : ℕ → Quat) (m : Momenta) (ws : List Float) where
  abbrev pub plan : Planner
  plan = planner_by way (length ws)

  -- k legs are answered
  pub record Filling (k : ℕ) (c : Cursor) (counts counts' : List (List ℕ)) (times times' decisions decisions' : List (List Float)) (nodes nodes' : List (List (List Float))) (ws' : List Float) : Type 0 where
    pub legs : List Planned
    pub is : record { cursor = c; legs = legs } ≡ flown plan p tile m k
    pub goes : c.fate ≡ going
    pub runs : c.runs ≤ k * most_runs
    pub counts_as : counts' ≡ leg_rows Layout.counts legs counts
    pub times_as : times' ≡ leg_rows Layout.times legs times
    pub decisions_as : decisions' ≡ leg_rows Layout.decision legs decisions
    pub nodes_as : nodes' ≡ leg_rows Layout.nodes legs nodes
    pub left : ws' ≡ leaves c.runs ws
    pub promised : (i : ℕ) (leg : Planned) → get_elem? legs i ≡ some leg → LegPromised way (length ws) p (tile i) (tile (i + 1)) (momenta_at m legs i) leg

  pub filling_first : (counts : List (List ℕ)) (times decisions : List (List Float)) (nodes : List (List (List Float))) {c : Cursor} → c ≡ start m → Filling 0 c counts counts times times decisions decisions nodes nodes ws
  unfolding flown iter
  filling_first counts times decisions nodes e = record {
    legs = [];
    is = ap (λ (x : Cursor). record { cursor = x; legs = [] }) e;
    goes = ap (λ (x : Cursor). x.fate) e;
    runs = rw e (omega arith);
    counts_as = refl;
    times_as = refl;
    decisions_as = refl;
    nodes_as = refl;
    left = rw e (leaves_none ws);
    promised = λ i leg x. let z : ◌≡◌ {A = ℕ} 0 1 = cc in absurd (omega arith);
  }

  module _ {k : ℕ} {c : Cursor} {counts counts' : List (List ℕ)} {times times' decisions decisions' : List (List Float)} {nodes nodes' : List (List (List Float))} {ws' : List Float}
      (F : Filling k c counts counts' times times' decisions decisions' nodes nodes' ws') where
    stands : (flown plan p tile m k).cursor.fate ≡ going
    stands = rw (← F.is) F.goes

    index : c.index ≡ k
    index = ap (λ (f : Flight). f.cursor.index) F.is ∙ going_index plan p tile m k stands

    count : length F.legs ≡ k
    count = ap (λ (f : Flight). length f.legs) F.is ∙ sym (legal plan p tile m k).count ∙ going_index plan p tile m k stands

    held : c.momenta ≡ momenta_at m F.legs k
    held = ap (λ (f : Flight). f.cursor.momenta) F.is ∙ (legal plan p tile m k).held ∙ rw (going_index plan p tile m k stands, ← F.is) refl

    no_refused : c.refused_runs ≡ 0
    no_refused = ap (λ (f : Flight). f.cursor.refused_runs) F.is ∙ (legal plan p tile m k).none stands

    pub filling_size : length ws' ≡ length ws
    filling_size = ap length F.left ∙ leaves_length c.runs ws

    -- all legs
    pub filling_whole : Filled (flown plan p tile m k) way p tile m c counts counts' times times' decisions decisions' nodes nodes' ws ws'
    filling_whole = rw (← F.is) (record {
      cursor = refl;
      counts_as = F.counts_as;
      times_as = F.times_as;
      decisions_as = F.decisions_as;
      nodes_as = F.nodes_as;
      left = rw (no_refused, add-zero c.runs) F.left;
      promised = F.promised;
    })

    -- the next leg was planned
    module _ {from to : Quat} {r : Advanced} {exit : List Float} (room : k ≤ 62) (f : from ≡ tile k) (t : to ≡ tile (k + 1)) (a : Advances way p c from to ws' r exit) where
      abbrev leg : Planned
      leg = leg_from plan p tile k c.momenta

      few : c.runs ≤ full_runs_value
      few = omega (arith, F.runs)

      low : c.index ≤ 62
      low = omega (arith, index)

      same : planner_by way (length ws') (leg_problem p from to c.momenta) ≡ leg
      same = rw (f, t, filling_size) refl

      planned_is : r.planned ≡ leg
      planned_is = a.planned ∙ planned_open (planner_by way (length ws')) p c from to F.goes low few ∙ same

      cursor_is : r.cursor ≡ moved c leg
      cursor_is = a.cursor ∙ next_open (planner_by way (length ws')) p c from to F.goes low few ∙ ap (moved c) same

      more : flown plan p tile m (k + 1) ≡ record { cursor = moved c leg; legs = added_by leg.fate F.legs leg }
      more = rw (← F.is) at (flown_next plan p tile m k stands)

      exit_is : exit ≡ leaves (c.runs + r.planned.runs) ws
      exit_is = a.left ∙ ap (leaves r.planned.runs) F.left ∙ leaves_twice c.runs r.planned.runs ws

      -- it was answered
      module _ (g : r.planned.fate ≡ going) where
        goes_as : leg.fate ≡ going
        goes_as = ap (λ (x : Planned). x.fate) (sym planned_is) ∙ g

        took_as : r.cursor ≡ took c r.planned
        unfolding moved
        took_as = cursor_is ∙ ap (moved c) (sym planned_is) ∙ rw g refl

        more_as : flown plan p tile m (k + 1) ≡ record { cursor = moved c leg; legs = F.legs ++ leg ∷ [] }
        more_as = more ∙ ap (λ (e : Fate). record { cursor = moved c leg; legs = added_by e F.legs leg }) goes_as

        pub filling_next : {x : List ℕ} {y : List Float} {z : List (List Float)} → x ≡ Layout.counts r.planned → y ≡ Layout.times r.planned → z ≡ Layout.nodes r.planned
            → k < length counts → k < length times → k < length decisions → k < length nodes
            → Filling (k + 1) r.cursor counts (set counts' k x) times (set times' k y) decisions (set decisions' k (Layout.decision r.planned)) nodes (set nodes' k z) exit
        filling_next ex ey ez h1 h2 h3 h4 = rw (ex, ey, ez) (record {
          legs = F.legs ++ r.planned ∷ [];
          is = (λ i. record { cursor = cursor_is i; legs = F.legs ++ planned_is i ∷ [] }) ∙ sym more_as;
          goes = ap (λ (x : Cursor). x.fate) took_as;
          runs = let b : r.planned.runs ≤ most_runs = rw planned_is (runs_most way (length ws) _) in let e : r.cursor.runs ≡ c.runs + r.planned.runs = ap (λ (x : Cursor). x.runs) took_as in omega (arith, F.runs);
          counts_as = row_as Layout.counts F.legs k count r.planned counts counts' F.counts_as h1;
          times_as = row_as Layout.times F.legs k count r.planned times times' F.times_as h2;
          decisions_as = row_as Layout.decision F.legs k count r.planned decisions decisions' F.decisions_as h3;
          nodes_as = row_as Layout.nodes F.legs k count r.planned nodes nodes' F.nodes_as h4;
          left = exit_is ∙ ap (λ (n : ℕ). leaves n ws) (sym (ap (λ (x : Cursor). x.runs) took_as));
          promised = each_more m (λ i n l. LegPromised way (length ws) p (tile i) (tile (i + 1)) n l) F.legs r.planned F.promised (promised_as way (length ws) p tile m F.legs k from to c.momenta r.planned count f t held (rw filling_size at (a.answers.given g)));
        })

      -- it was refused, and ends the mosaic of n legs
      module _ {why : Refusal} {n : ℕ} (g : r.planned.fate ≡ Err why) (h : k < n) where
        refused_as : leg.fate ≡ Err why
        refused_as = ap (λ (x : Planned). x.fate) (sym planned_is) ∙ g

        halted_as : r.cursor ≡ halted c why r.planned.runs
        unfolding moved
        halted_as = cursor_is ∙ ap (moved c) (sym planned_is) ∙ rw g refl

        last_as : flown plan p tile m (k + 1) ≡ record { cursor = r.cursor; legs = F.legs }
        last_as = more ∙ (λ i. record { cursor = sym cursor_is i; legs = added_by (refused_as i) F.legs leg })

        stops : (flown plan p tile m (k + 1)).cursor.fate ≡ Err why
        stops = ap (λ (x : Flight). x.cursor.fate) last_as ∙ ap (λ (x : Cursor). x.fate) halted_as

        pub filling_cut : Filled (flown plan p tile m n) way p tile m r.cursor counts counts' times times' decisions decisions' nodes nodes' ws exit
        filling_cut = rw (stays plan p tile m (k + 1) n why.number why.place (omega arith) stops, last_as) (record {
          cursor = refl;
          counts_as = F.counts_as;
          times_as = F.times_as;
          decisions_as = F.decisions_as;
          nodes_as = F.nodes_as;
          left = exit_is ∙ ap (λ (x : Cursor). leaves (x.runs + x.refused_runs) ws) (sym halted_as);
          promised = F.promised;
        })

-- a mosaic from the same momenta
pub filled_from : (plan : Planner) (way : Way) (p : Problem) (tile : ℕ → Quat) (k : ℕ) {m n : Momenta} → m ≡ n → {r : Cursor} {counts counts' : List (List ℕ)} {times times' decisions decisions' : List (List Float)} {nodes nodes' : List (List (List Float))} {ws ws' : List Float}
    → Filled (flown plan p tile m k) way p tile m r counts counts' times times' decisions decisions' nodes nodes' ws ws'
    → Filled (flown plan p tile n k) way p tile n r counts counts' times times' decisions decisions' nodes nodes' ws ws'
filled_from plan way p tile k e h = rw e at h
