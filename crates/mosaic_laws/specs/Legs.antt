-- What the legs of a mosaic are, what its sums are, and where it stops, over any planner of one slew. Assumes nothing.
use Prim.Native.Nat.{ℕ, zero, suc, ◌+◌, ◌<◌, ◌≤◌}
use Rattle.std.proofs.Math.Path.{◌≡◌, refl, sym, ap}
use Rattle.std.proofs.Common.{◌∙◌, add-one, arith, length-append, Ok, Err}
use mathlib.Core.List.{List, [], ◌∷◌, ◌++◌}
use Rattle.std.proofs.Math.Option.{some}
use Rattle.std.specs.Prelude.{length, Float}
use Rattle.std.proofs.Math.ListN.{get_elem?}
use Rattle.std.specs.Float.{binary64}
use Rattle.std.specs.Float.Ieee.{add}
use Rattle.common.specs.Floats.{plus_zero}
use Rattle.common.specs.Iter.{iter}
use Rattle.common.specs.IterLaws.{iter_next, iter_stays}
use Rattle.geom.specs.declared.Quat.{Quat}
use Rattle.problem.specs.declared.Momenta.{Momenta}
use Rattle.problem.specs.declared.Problem.{Problem}
use Rattle.planner.specs.declared.Planned.{Planned}
use Rattle.wheel_momenta.specs.Successive.{last_momenta}
use Rattle.mosaic.specs.Mosaics.{Planner, Flight, start, took, halted, moved_by, moved, added_by, flew_by, leg_from, fly, flown, last_or, momenta_at}
use Rattle.mosaic.specs.declared.Cursor.{Cursor}
use Rattle.common.specs.Refusals.{Fate, refusal, going}
use Rattle.common.specs.declared.Refusal.{Refusal}

-- ---- sums in order: durations and runs of legs added, one by one, to a total
abbrev pub durations_onto : Float → List Planned → Float
durations_onto d [] = d
durations_onto d (leg ∷ legs) = durations_onto (add binary64 d leg.path.duration) legs

abbrev pub runs_onto : ℕ → List Planned → ℕ
runs_onto n [] = n
runs_onto n (leg ∷ legs) = runs_onto (n + leg.runs) legs

pub durations_more : (legs : List Planned) (leg : Planned) (d : Float) → durations_onto d (legs ++ (leg ∷ [])) ≡ add binary64 (durations_onto d legs) leg.path.duration
durations_more [] leg d = refl
durations_more (x ∷ legs) leg d = durations_more legs leg (add binary64 d x.path.duration)

pub runs_more : (legs : List Planned) (leg : Planned) (n : ℕ) → runs_onto n (legs ++ (leg ∷ [])) ≡ runs_onto n legs + leg.runs
runs_more [] leg n = refl
runs_more (x ∷ legs) leg n = runs_more legs leg (n + x.runs)

-- ---- one more at the end of a list
module _ {L : Type 0} where
  at_front : (xs : List L) (l : L) (i : ℕ) → i < length xs → get_elem? (xs ++ (l ∷ [])) i ≡ get_elem? xs i
  at_front [] l i h = absurd (omega arith)
  at_front (x ∷ xs) l zero h = refl
  at_front (x ∷ xs) l (suc i) h = at_front xs l i (omega arith)

  at_end : (xs : List L) (l : L) → get_elem? (xs ++ (l ∷ [])) (length xs) ≡ some l
  at_end [] l = refl
  at_end (x ∷ xs) l = at_end xs l

  -- the place is in the list, or it is the end
  data Place (xs : List L) (i : ℕ) : Type 0 where
    inside : i < length xs → Place xs i
    last : i ≡ length xs → Place xs i

  up : {y : L} {xs : List L} {i : ℕ} → Place xs i → Place (y ∷ xs) (suc i)
  up (inside h) = inside (omega arith)
  up (last e) = last (ap suc e)

  placed : (xs : List L) (l : L) (i : ℕ) {x : L} → get_elem? (xs ++ (l ∷ [])) i ≡ some x → Place xs i
  placed [] l zero e = last refl
  placed [] l (suc i) {x} e = let z : ◌≡◌ {A = ℕ} 0 1 = cc in absurd (omega arith)
  placed (y ∷ xs) l zero e = inside (omega arith)
  placed (y ∷ xs) l (suc i) e = up (placed xs l i e)

momenta_front : (m : Momenta) (legs : List Planned) (leg : Planned) (i : ℕ) → i ≤ length legs → momenta_at m (legs ++ (leg ∷ [])) i ≡ momenta_at m legs i
momenta_front m legs leg zero h = refl
momenta_front m legs leg (suc i) h = ap (last_or m) (at_front legs leg i h)

-- what holds of each leg, with its momenta, and of one more at the end
module _ (m : Momenta) (Q : ℕ → Momenta → Planned → Type 0) (legs : List Planned) (leg : Planned) where
  pub each_more : ((i : ℕ) (x : Planned) → get_elem? legs i ≡ some x → Q i (momenta_at m legs i) x) → Q (length legs) (momenta_at m legs (length legs)) leg
      → (i : ℕ) (x : Planned) → get_elem? (legs ++ (leg ∷ [])) i ≡ some x → Q i (momenta_at m (legs ++ (leg ∷ [])) i) x
  each_more h q i x e = go (placed legs leg i e)
    where
      go : Place legs i → Q i (momenta_at m (legs ++ (leg ∷ [])) i) x
      go (inside b) = rw (momenta_front m legs leg i (omega arith)) (h i x (sym (at_front legs leg i b) ∙ e))
      go (last b) =
          let y : leg ≡ x = cc (at_end legs leg, b, e) in
          rw (momenta_front m legs leg i (omega arith), b, ← y) q

-- ---- the momenta, in words: leg 0 starts with the caller's, and the leg after leg i with those of node 16 of leg i's path
pub momenta_first : (m : Momenta) (legs : List Planned) → momenta_at m legs 0 ≡ m
momenta_first m legs = refl

pub momenta_next_law : (m : Momenta) (legs : List Planned) (i : ℕ) (leg : Planned) → get_elem? legs i ≡ some leg → momenta_at m legs (i + 1) ≡ last_momenta leg.path
momenta_next_law m legs i leg e = rw add-one (rw e refl)

-- ---- what the planner gives and refuses for a leg alone
pub record Gives (plan : Planner) (p : Problem) (tile : ℕ → Quat) (i : ℕ) (m : Momenta) (leg : Planned) : Type 0 where
  pub is : leg ≡ leg_from plan p tile i m
  pub goes : leg.fate ≡ going

pub record Refuses (plan : Planner) (p : Problem) (tile : ℕ → Quat) (i : ℕ) (m : Momenta) (number place begun : ℕ) : Type 0 where
  pub fate : (leg_from plan p tile i m).fate ≡ Err (refusal number place)
  pub runs : (leg_from plan p tile i m).runs ≡ begun

module _ (plan : Planner) (p : Problem) (tile : ℕ → Quat) (m : Momenta) where
  -- ---- WHAT A MOSAIC IS, from the caller's momenta m
  pub record Legal (f : Flight) : Type 0 where
    pub count : f.cursor.index ≡ length f.legs
    -- leg i is what the planner gives for that leg alone, from its momenta
    pub leg : (i : ℕ) (l : Planned) → get_elem? f.legs i ≡ some l → Gives plan p tile i (momenta_at m f.legs i) l
    -- the momenta held are those that the last leg ended with, or the caller's
    pub held : f.cursor.momenta ≡ momenta_at m f.legs f.cursor.index
    -- where it stopped, the planner refuses the leg at the index, from its momenta, with that number and place and those runs
    pub refusal : (number place : ℕ) → f.cursor.fate ≡ Err (refusal number place) → Refuses plan p tile f.cursor.index (momenta_at m f.legs f.cursor.index) number place f.cursor.refused_runs
    -- the sums are those of the answered legs, in order, from +0 and 0
    pub duration : f.cursor.duration ≡ durations_onto plus_zero f.legs
    pub runs : f.cursor.runs ≡ runs_onto 0 f.legs
    -- while no leg is refused, no runs of a refused one are told
    pub none : f.cursor.fate ≡ going → f.cursor.refused_runs ≡ 0

  module _ (f : Flight) (h : Legal f) where
    next : Planned
    next = leg_from plan p tile f.cursor.index f.cursor.momenta

    took_leg : (leg : Planned) → leg ≡ leg_from plan p tile f.cursor.index f.cursor.momenta → leg.fate ≡ going
        → (i : ℕ) (x : Planned) → get_elem? (f.legs ++ (leg ∷ [])) i ≡ some x → Gives plan p tile i (momenta_at m (f.legs ++ (leg ∷ [])) i) x
    took_leg leg e g = each_more m (Gives plan p tile) f.legs leg h.leg (rw (← h.count, ← h.held) (record { is = e; goes = g }))

    took_held : (leg : Planned) → last_momenta leg.path ≡ momenta_at m (f.legs ++ (leg ∷ [])) (f.cursor.index + 1)
    took_held leg = rw (add-one, h.count, at_end f.legs leg) refl

    is : next ≡ leg_from plan p tile f.cursor.index f.cursor.momenta
    unfolding next
    is = refl

    took_legal : next.fate ≡ going → Legal (record { cursor = took f.cursor next; legs = f.legs ++ (next ∷ []) })
    took_legal g = record {
      count = rw (length-append, h.count) refl;
      leg = took_leg next is g;
      held = took_held next;
      refusal = λ n k e. let z : ◌≡◌ {A = ℕ} 0 1 = cc in absurd (omega arith);
      duration = rw (durations_more, ← h.duration) refl;
      runs = rw (runs_more, ← h.runs) refl;
      none = λ e. refl;
    }

    halted_legal : (why : Refusal) → next.fate ≡ Err why → Legal (record { cursor = halted f.cursor why next.runs; legs = f.legs })
    unfolding next
    halted_legal why g = record {
      count = h.count;
      leg = h.leg;
      held = h.held;
      refusal = λ a b e. let x : why.number ≡ a = cc in let y : why.place ≡ b = cc in rw (← h.held, ← x, ← y) (record { fate = g; runs = refl });
      duration = h.duration;
      runs = h.runs;
      none = λ e. let z : ◌≡◌ {A = ℕ} 0 1 = cc in absurd (omega arith);
    }

    answered_legal : (e : Fate) → next.fate ≡ e → Legal (record { cursor = moved_by e f.cursor next; legs = added_by e f.legs next })
    answered_legal (Ok _) g = took_legal g
    answered_legal (Err why) g = halted_legal why g

    fly_legal_by : (e : Fate) → Legal (flew_by e f next)
    unfolding moved
    fly_legal_by (Ok _) = answered_legal next.fate refl
    fly_legal_by (Err why) = h

    fly_legal : Legal (fly plan p tile f)
    unfolding fly next
    fly_legal = fly_legal_by f.cursor.fate

  start_legal : Legal (record { cursor = start m; legs = [] })
  start_legal = record {
    count = refl;
    leg = λ i l e. let z : ◌≡◌ {A = ℕ} 0 1 = cc in absurd (omega arith);
    held = refl;
    refusal = λ n k e. let z : ◌≡◌ {A = ℕ} 0 1 = cc in absurd (omega arith);
    duration = refl;
    runs = refl;
    none = λ e. refl;
  }

  -- EACH LEG ALONE, after any number of legs: leg i is the planner's for that leg alone, and the sums are those of the answered legs in order
  pub legal : (n : ℕ) → Legal (flown plan p tile m n)
  unfolding flown iter
  legal zero = start_legal
  legal (suc n) = fly_legal (flown plan p tile m n) (legal n)

  -- ---- where it stands: all n legs, or fewer and a refusal
  pub data Reached (n : ℕ) (f : Flight) : Type 0 where
    all : f.cursor.fate ≡ going → f.cursor.index ≡ n → Reached n f
    stopped : (number place : ℕ) → f.cursor.fate ≡ Err (refusal number place) → f.cursor.index < n → Reached n f

  answered_reached : (f : Flight) (leg : Planned) (n : ℕ) (e : Fate) → f.cursor.index ≡ n → Reached (suc n) (record { cursor = moved_by e f.cursor leg; legs = added_by e f.legs leg })
  answered_reached f leg n (Ok _) h = all refl (omega arith)
  answered_reached f leg n (Err why) h = stopped why.number why.place refl (omega arith)

  pub fly_as : (f : Flight) (e : Fate) → f.cursor.fate ≡ e → fly plan p tile f ≡ flew_by e f (leg_from plan p tile f.cursor.index f.cursor.momenta)
  unfolding fly
  fly_as f e h = rw h refl

  fly_reached : (f : Flight) (n : ℕ) → Reached n f → Reached (suc n) (fly plan p tile f)
  unfolding moved
  fly_reached f n (all e h) = let leg = leg_from plan p tile f.cursor.index f.cursor.momenta in rw (fly_as f going e) (answered_reached f leg n leg.fate h)
  fly_reached f n (stopped a b e h) = rw (fly_as f (Err (refusal a b)) e) (stopped a b e (omega arith))

  pub reached : (n : ℕ) → Reached n (flown plan p tile m n)
  unfolding flown iter
  reached zero = all refl refl
  reached (suc n) = fly_reached (flown plan p tile m n) n (reached n)

  index_of : (n : ℕ) (f : Flight) → Reached n f → f.cursor.fate ≡ going → f.cursor.index ≡ n
  index_of n f (all e h) g = h
  index_of n f (stopped a b e h) g = let z : ◌≡◌ {A = ℕ} 0 1 = cc in absurd (omega arith)

  -- where no leg was refused there are n legs
  pub going_index : (n : ℕ) → (flown plan p tile m n).cursor.fate ≡ going → (flown plan p tile m n).cursor.index ≡ n
  going_index n g = index_of n (flown plan p tile m n) (reached n) g

  index_most : (n : ℕ) (f : Flight) → Reached n f → f.cursor.index ≤ n
  index_most n f (all e h) = omega arith
  index_most n f (stopped a b e h) = omega arith

  pub index_le : (n : ℕ) → (flown plan p tile m n).cursor.index ≤ n
  index_le n = index_most n (flown plan p tile m n) (reached n)

  -- ---- EARLIER LEGS STAND: after a refusal nothing changes
  pub stays : (k n number place : ℕ) → k ≤ n → (flown plan p tile m k).cursor.fate ≡ Err (refusal number place) → flown plan p tile m n ≡ flown plan p tile m k
  unfolding flown
  stays k n a b h e = sym (iter_stays (λ _. fly plan p tile) (record { cursor = start m; legs = [] }) k n h refl (λ j. fly_as (flown plan p tile m k) (Err (refusal a b)) e))

  -- ---- where it goes on, the next leg is the planner's
  pub flown_next : (n : ℕ) → (flown plan p tile m n).cursor.fate ≡ going → flown plan p tile m (n + 1) ≡ flew_by going (flown plan p tile m n) (leg_from plan p tile n (flown plan p tile m n).cursor.momenta)
  unfolding flown
  flown_next n e =
      let f = flown plan p tile m n in
      let leg = ap (λ (k : ℕ). flew_by going f (leg_from plan p tile k f.cursor.momenta)) (going_index n e) in
      sym (iter_next (λ _. fly plan p tile) (record { cursor = start m; legs = [] }) n refl (sym (fly_as f going e ∙ leg)))
