-- A mosaic cut at a tile, which then belongs to both halves: the legs, the refusal, the sums. Over any planner of one slew. Assumes nothing.
use Prim.Native.Nat.{ℕ, zero, suc, ◌+◌}
use Rattle.std.specs.Prelude.{◌≡◌, Float, Ok, Err}
use Rattle.std.proofs.Math.Path.{refl, ap}
use Rattle.std.proofs.Common.{sym, ◌∙◌, zero-add, add-zero, suc-add, add_assoc, add_comm, arith}
use mathlib.Core.List.{List, [], ◌∷◌, ◌++◌, append_assoc, append-nil}
use Rattle.std.specs.Float.{binary64}
use Rattle.std.specs.Float.Ieee.{add}
use Rattle.common.specs.Iter.{iter}
use Rattle.geom.specs.declared.Quat.{Quat}
use Rattle.problem.specs.declared.Momenta.{Momenta}
use Rattle.problem.specs.declared.Problem.{Problem}
use Rattle.planner.specs.declared.Planned.{Planned}
use Rattle.mosaic.specs.Mosaics.{Planner, Flight, start, moved_by, moved, added_by, flew_by, leg_problem, leg_from, fly, flown}
use Rattle.mosaic.specs.declared.Cursor.{Cursor}
use Rattle.mosaic_laws.specs.Legs.{durations_onto, durations_more, legal, going_index, stays}
use Rattle.common.specs.Refusals.{Fate, refusal, going}

-- d turns after c turns
turns_add : {X : Type 0} (g : X → X) (a : X) (c d : ℕ) → iter (λ _. g) a (d + c) ≡ iter (λ _. g) (iter (λ _. g) a c) d
unfolding iter
turns_add g a c zero = rw zero-add refl
turns_add g a c (suc d) = rw suc-add (ap g (turns_add g a c d))

-- the tiles from tile c on
abbrev pub from : (ℕ → Quat) → ℕ → ℕ → Quat
from tile c i = tile (c + i)

-- The first half, and after it the second: legs and runs are both halves'; index, momenta and refusal are the second's, counted on from the first; and the second
-- half's durations are added, one by one, to the first half's total. The second half's own total is not read.
abbrev pub joined : Flight → Flight → Flight
joined f s = record {
  cursor = record {
    index = f.cursor.index + s.cursor.index;
    momenta = s.cursor.momenta;
    duration = durations_onto f.cursor.duration s.legs;
    runs = f.cursor.runs + s.cursor.runs;
    fate = s.cursor.fate;
    refused_runs = s.cursor.refused_runs;
  };
  legs = f.legs ++ s.legs;
}

answered_joined : (f s : Flight) (leg : Planned) (e : Fate)
    → ◌≡◌ {A = Flight} (record { cursor = moved_by e (joined f s).cursor leg; legs = added_by e (joined f s).legs leg }) (joined f (record { cursor = moved_by e s.cursor leg; legs = added_by e s.legs leg }))
answered_joined f s leg (Ok _) = simp (add_assoc, append_assoc, durations_more)
answered_joined f s leg (Err why) = refl

module _ (plan : Planner) (p : Problem) where
  fly_joined_by : (tile : ℕ → Quat) (f s : Flight) (e : Fate)
      → flew_by e (joined f s) (leg_from plan p tile (f.cursor.index + s.cursor.index) s.cursor.momenta) ≡ joined f (flew_by e s (leg_from plan p (from tile f.cursor.index) s.cursor.index s.cursor.momenta))
  unfolding moved
  fly_joined_by tile f s (Ok _) =
      let leg = leg_from plan p (from tile f.cursor.index) s.cursor.index s.cursor.momenta in
      ap (λ (k : ℕ). flew_by going (joined f s) (plan (leg_problem p (tile (f.cursor.index + s.cursor.index)) (tile k) s.cursor.momenta))) (add_assoc f.cursor.index s.cursor.index 1) ∙ answered_joined f s leg leg.fate
  fly_joined_by tile f s (Err why) = refl

  fly_joined : (tile : ℕ → Quat) (f s : Flight) → fly plan p tile (joined f s) ≡ joined f (fly plan p (from tile f.cursor.index) s)
  unfolding fly
  fly_joined tile f s = fly_joined_by tile f s s.cursor.fate

  start_joined : (f : Flight) → f.cursor.fate ≡ going → f.cursor.refused_runs ≡ 0 → f ≡ joined f (record { cursor = start f.cursor.momenta; legs = [] })
  start_joined f e z = λ i. record {
    cursor = record {
      index = sym (add-zero f.cursor.index) i;
      momenta = f.cursor.momenta;
      duration = f.cursor.duration;
      runs = sym (add-zero f.cursor.runs) i;
      fate = e i;
      refused_runs = z i;
    };
    legs = sym (append-nil f.legs) i;
  }

  turns_joined : (tile : ℕ → Quat) (f : Flight) → f.cursor.fate ≡ going → f.cursor.refused_runs ≡ 0 → (d : ℕ)
      → iter (λ _. fly plan p tile) f d ≡ joined f (flown plan p (from tile f.cursor.index) f.cursor.momenta d)
  unfolding iter flown
  turns_joined tile f e z zero = start_joined f e z
  turns_joined tile f e z (suc d) = ap (fly plan p tile) (turns_joined tile f e z d) ∙ fly_joined tile f (flown plan p (from tile f.cursor.index) f.cursor.momenta d)

  module _ (tile : ℕ → Quat) (m : Momenta) (c d : ℕ) where
    -- the first half: c legs
    abbrev pub first : Flight
    first = flown plan p tile m c

    -- the second, over the tiles from c on, from the first half's last momenta: d legs
    abbrev pub second : Flight
    second = flown plan p (from tile c) first.cursor.momenta d

    -- THE CUT at tile c of a mosaic of c + d legs, where the first half is answered: the whole is the first half joined with the second
    pub cut : first.cursor.fate ≡ going → flown plan p tile m (c + d) ≡ joined first second
    unfolding flown
    cut e =
        ap (flown plan p tile m) (add_comm c d)
        ∙ turns_add (fly plan p tile) (record { cursor = start m; legs = [] }) c d
        ∙ turns_joined tile first e ((legal plan p tile m c).none e) d
        ∙ ap (λ (k : ℕ). joined first (flown plan p (from tile k) first.cursor.momenta d)) (going_index plan p tile m c e)

    -- the same by parts, of the whole w
    pub record Cut (w : Flight) : Type 0 where
      pub legs : w.legs ≡ first.legs ++ second.legs
      -- answered or refused as the second half is, with the same number, place and runs, at its index and c more
      pub fate : w.cursor.fate ≡ second.cursor.fate
      pub refused_runs_law : w.cursor.refused_runs ≡ second.cursor.refused_runs
      pub index : w.cursor.index ≡ c + second.cursor.index
      pub momenta : w.cursor.momenta ≡ second.cursor.momenta
      pub runs : w.cursor.runs ≡ first.cursor.runs + second.cursor.runs
      -- the second half's durations, added in order to the first half's total
      pub duration : w.cursor.duration ≡ durations_onto first.cursor.duration second.legs

    pub cut_parts : first.cursor.fate ≡ going → Cut (flown plan p tile m (c + d))
    cut_parts e =
        let q = cut e in
        record {
          legs = ap (λ (w : Flight). w.legs) q;
          fate = ap (λ (w : Flight). w.cursor.fate) q;
          refused_runs_law = ap (λ (w : Flight). w.cursor.refused_runs) q;
          index = ap (λ (w : Flight). w.cursor.index) q ∙ ap (λ (k : ℕ). k + second.cursor.index) (going_index plan p tile m c e);
          momenta = ap (λ (w : Flight). w.cursor.momenta) q;
          runs = ap (λ (w : Flight). w.cursor.runs) q;
          duration = ap (λ (w : Flight). w.cursor.duration) q;
        }

    -- THE CUT where the first half is refused: the whole is the first half, with all its sums
    pub cut_refused : (number place : ℕ) → first.cursor.fate ≡ Err (refusal number place) → flown plan p tile m (c + d) ≡ first
    cut_refused number place e = stays plan p tile m c (c + d) number place (omega arith) e

    -- UP TO THE FIRST REFUSED LEG: the first half's legs are the first of the whole's, whichever way it stands
    cut_first_by : (x : Fate) → first.cursor.fate ≡ x → (rest : List Planned) × ((flown plan p tile m (c + d)).legs ≡ first.legs ++ rest)
    cut_first_by (Ok _) e = (second.legs, (cut_parts e).legs)
    cut_first_by (Err why) e = ([], ap (λ (w : Flight). w.legs) (cut_refused why.number why.place e) ∙ sym (append-nil first.legs))

    pub cut_first : (rest : List Planned) × ((flown plan p tile m (c + d)).legs ≡ first.legs ++ rest)
    cut_first = cut_first_by first.cursor.fate refl
