-- One dense sample of a run's nodes: where it lies, and its rate against its two nodes'. Assumes nothing.
use Rattle.std.specs.Prelude.{◌≡◌, refl, Bool, true, false, List, ℕ, ◌+◌, ◌<◌, T, ltb, Float, Option, Some, None, Ok, Err}
use Rattle.std.proofs.Common.{sym, subst, ◌∙◌, arith, ltb-true, ltb-false}
use Rattle.std.proofs.Math.Path.{ap}
use Rattle.std.specs.Float.Ieee.{binary64, sub, div, lt, le, eq, fits}
use Rattle.std.specs.Float.Ieee.Fits.{mul-fits, div-fits}
use Rattle.std.specs.Float.Ieee.Scale.{finite}
use Rattle.common.specs.Floats.{plus_zero}
use Rattle.common.specs.Answer.{Given}
use Rattle.common.specs.Lists.{at}
use Rattle.float_laws.specs.Below.{below_three}
use Rattle.float_laws.specs.Exact.{exact}
use Rattle.float_laws.specs.Finite.{between_finite}
use Rattle.float_laws.specs.Order.{Held, held, lt_up, le_up, lt_le, not_above, not_most}
use Rattle.float_laws.specs.Place.{mid, place}
use Rattle.mean_laws.specs.Fractions.{plus_from0, fraction_later}
use Rattle.mean_laws.specs.Means.{Plain, Fraction, Bounded}
use Rattle.mean_laws.specs.MeanLaws.{mean_bounded, mean_null, first_bounded, second_bounded}
use Rattle.mean_laws.specs.Weights.{plain_held}
use Rattle.forward.specs.declared.Node.{Node}
use Rattle.forward.specs.Runs.{node_at}
use Rattle.run_laws.specs.Values.{Fine3}
use Rattle.run_laws.specs.Runs as Runs
use Rattle.samples.specs.Answers.{of_sampled}
use Rattle.samples.specs.Counts.{sample_count}
use Rattle.samples.specs.Laws.{Plain3, has_next, first_node, last_node, means, sample_time}
use Rattle.samples.specs.Rows.{rows}
use Rattle.samples.specs.SampleLaws.{too_many, past_count}
use Rattle.samples.specs.Samples.{Sampled, refused, given, time, rate, mean, fraction, earlier, time_of, sample, at_node}
use Rattle.samples.specs.declared.PathSample.{PathSample}
use Rattle.sample_laws.specs.Between.{SameRate, Amid, at_first, at_last, amid, WithinNodes}
use Rattle.sample_laws.specs.Courses.{RunNode}
use Rattle.sample_laws.specs.Nodes.{RunNodes}
use Rattle.sample_laws.specs.Instants.{first_time, times_plus, sample_number}
use Rattle.sample_laws.specs.Rows.{time_is, rate_is}
use Rattle.sample_laws.specs.Walks.{walked}

-- ---- the three parts of a mean
module _ (a b : List Float) (x : Float) (p : Plain3 a) (q : Plain3 b) where
  means_bounded : Fraction x → (k : ℕ) → k < 3 → Bounded (at a k) (at b k) (at (mean a b x) k)
  unfolding mean
  means_bounded f =
      below_three (λ (k : ℕ). Bounded (at a k) (at b k) (at (mean a b x) k))
      (mean_bounded (at a 0) (at b 0) x (p 0 (omega arith)) (q 0 (omega arith)) f)
      (mean_bounded (at a 1) (at b 1) x (p 1 (omega arith)) (q 1 (omega arith)) f)
      (mean_bounded (at a 2) (at b 2) x (p 2 (omega arith)) (q 2 (omega arith)) f)

  means_null : T (fits binary64 x) → T (eq x plus_zero) → (k : ℕ) → k < 3 → exact (at (mean a b x) k) ≡ exact (at a k)
  unfolding mean
  means_null f z =
      below_three (λ (k : ℕ). exact (at (mean a b x) k) ≡ exact (at a k))
      (mean_null (at a 0) (at b 0) x (p 0 (omega arith)) (q 0 (omega arith)) f z)
      (mean_null (at a 1) (at b 1) x (p 1 (omega arith)) (q 1 (omega arith)) f z)
      (mean_null (at a 2) (at b 2) x (p 2 (omega arith)) (q 2 (omega arith)) f z)

-- the same numbers by other names
bounded_as : {a a' b b' w w' : Float} → a ≡ a' → b ≡ b' → w ≡ w' → Bounded a b w → Bounded a' b' w'
bounded_as e f g h = rw (e, f, g) at h

le_as : {a a' b b' : Float} → a' ≡ a → b' ≡ b → le a b ≡ true → T (le a' b')
le_as e f h = rw (e, f, h) tt

exact_as : {a a' w w' : Float} → a ≡ a' → w ≡ w' → exact w ≡ exact a → exact w' ≡ exact a'
exact_as e f h = rw (e, f) at h

amid_as : (nodes : List Node) (i : ℕ) (s : PathSample) {t t0 t1 : Float} → t0 ≡ (node_at nodes i).t → t1 ≡ (node_at nodes (i + 1)).t → s.t ≡ t → T (lt t0 t) → T (le t t1)
    → Fraction (div binary64 (sub binary64 t t0) (sub binary64 t1 t0))
    → (T (eq (div binary64 (sub binary64 t t0) (sub binary64 t1 t0)) plus_zero) → (k : ℕ) → k < 3 → exact (at s.w k) ≡ exact (at (node_at nodes i).w k))
    → Amid nodes i s
amid_as nodes i s a b c l u f z = record { after = rw (c, ← a) l; upto = rw (c, ← b) u; part = rw (c, ← a, ← b) f; from_zero = rw (c, ← a, ← b) z }

-- a sample that is given
given_is : (x : Sampled) (s : PathSample) → of_sampled x ≡ Given s → x ≡ Ok s
given_is (Ok r) s h = let e : r ≡ s = cc in rw e
given_is (Err why) s h = let z : ◌≡◌ {A = ℕ} 0 1 = cc in absurd (omega arith)

-- a refusal gives none
refused_given : {n place : ℕ} {s : PathSample} → refused n place ≡ Ok s → ⊥
refused_given h = let z : ◌≡◌ {A = ℕ} 0 1 = cc in omega arith

given_one : {r s : PathSample} → given r ≡ given s → r ≡ s
given_one h = cc

module _ (nodes : List Node) (dt duration : Float) (F : RunNodes nodes dt) (D : T (finite duration)) where
  abbrev R : List (List Float)
  R = rows nodes

  -- ---- the rows' times and rates
  time_at : (k : ℕ) → k < 17 → time R k ≡ Runs.time_of dt k
  time_at k h = time_is nodes k h ∙ (F.made k h).t

  time_plain : (k : ℕ) → k < 17 → Plain (time R k)
  time_plain k h = record { fit = subst (λ (x : Float). T (fits binary64 x)) (sym (time_at k h)) (mul-fits binary64 _ _); fine = subst (λ (x : Float). T (finite x)) (sym (time_is nodes k h)) (F.time k h) }

  part_plain : (k : ℕ) → k < 17 → (i : ℕ) → i < 3 → Plain (at (node_at nodes k).w i)
  part_plain k h =
      let f = F.rate k h in
      let g = (F.made k h).w in
      below_three (λ (i : ℕ). Plain (at (node_at nodes k).w i)) (record { fit = g.0; fine = f.0 }) (record { fit = g.1; fine = f.1 }) (record { fit = g.2; fine = f.2 })

  rate_plain : (k : ℕ) → k < 17 → Plain3 (rate R k)
  rate_plain k h i l = subst Plain (sym (rate_is nodes k h i l)) (part_plain k h i l)

  -- ---- the end nodes
  same : (s : PathSample) (i : ℕ) → i < 17 → s.w ≡ rate R i → SameRate nodes i s
  same s i h e k l = ap (λ (v : List Float). at v k) e ∙ rate_is nodes i h k l

  at_start : (s : PathSample) → s.w ≡ rate R 0 → T (le s.t (node_at nodes 0).t) → WithinNodes nodes s
  at_start s e l =
      let h = same s 0 (omega arith) e in record {
        i = 0;
        has_next = omega arith;
        placed = at_first refl l h;
        rates = λ k j. bounded_as refl refl (sym (h k j)) (first_bounded (at (node_at nodes 0).w k) (at (node_at nodes 1).w k) (part_plain 0 (omega arith) k j).fine);
      }

  at_end : (s : PathSample) → s.w ≡ rate R 16 → T (le (node_at nodes 16).t s.t) → WithinNodes nodes s
  at_end s e l =
      let h = same s 16 (omega arith) e in record {
        i = 15;
        has_next = omega arith;
        placed = at_last refl l h;
        rates = λ k j. bounded_as refl refl (sym (h k j)) (second_bounded (at (node_at nodes 15).w k) (at (node_at nodes 16).w k) (part_plain 16 (omega arith) k j).fine);
      }

  -- ---- sample number index of n, at the time t
  module _ (j : List (List Float)) (tol : Float) (requested : ℕ) (alpha : Float) (index : ℕ) {n : ℕ} (counted : sample_count duration requested alpha ≡ Some n) (below : index < n) {s : PathSample}
      (gives : sample j tol duration R requested alpha index ≡ Ok s) where
    abbrev t : Float
    t = time_of duration n index

    t_fits : T (fits binary64 t)
    unfolding time_of
    t_fits = div-fits binary64 _ _

    t_held : Held binary64 t
    t_held = held t_fits (sample_number duration requested alpha index D counted below)

    -- between the end nodes
    module _ (after : le t (time R 0) ≡ false) (before : le (time R 16) t ≡ false) where
      abbrev i : ℕ
      i = earlier R t

      first : T (lt (time R 0) t)
      first = not_most binary64 t (time R 0) t_held (plain_held (time_plain 0 (omega arith))) (rw after tt)

      last : T (lt t (time R 16))
      last = not_most binary64 (time R 16) t (plain_held (time_plain 16 (omega arith))) t_held (rw before tt)

      t_plain : Plain t
      t_plain =
          let p = time_plain 0 (omega arith) in
          let q = time_plain 16 (omega arith) in
          record { fit = t_fits; fine = between_finite t (time R 0) (time R 16) p.fine q.fine (lt_le binary64 (time R 0) t p.fit t_fits first) (lt_le binary64 t (time R 16) t_fits q.fit last) }

      i_next : i < 16
      i_next = has_next R t before

      i_plain : Plain (time R i)
      i_plain = time_plain i (let l = i_next in omega arith)

      n_plain : Plain (time R (i + 1))
      n_plain = time_plain (i + 1) (let l = i_next in omega arith)

      past : T (lt (time R i) t)
      past = (walked R t first before).0

      upto : T (le t (time R (i + 1)))
      upto = not_above binary64 t (time R (i + 1)) t_held (plain_held n_plain) (walked R t first before).1

      -- node i is not before 0, since the next one is after it
      next_high : mid binary64 < place binary64 (Runs.time_of dt (i + 1))
      next_high =
          let a = lt_up binary64 (time R 0) t (plain_held (time_plain 0 (omega arith))) t_held first in
          let b = le_up binary64 t (time R (i + 1)) t_held (plain_held n_plain) upto in
          let c = ap (place binary64) (time_at 0 (omega arith)) ∙ first_time dt F.step in
          let d = ap (place binary64) (time_at (i + 1) (let l = i_next in omega arith)) in
          omega arith

      i_from0 : T (le plus_zero (time R i))
      i_from0 =
          let l = i_next in
          plus_from0 (time R i) i_plain.fit (rw (time_at i (omega arith)) (times_plus dt (i + 1) i F.step.fine (omega arith) (omega arith) next_high))

      part : Fraction (fraction R i t)
      part = fraction_later t (time R i) t_plain i_plain past (time R (i + 1)) n_plain upto i_from0

      mean_of : s.w ≡ mean (rate R i) (rate R (i + 1)) (fraction R i t)
      mean_of = (means j tol duration R requested alpha index counted below refl after before refl gives).0

      timed : s.t ≡ t
      timed = sample_time j tol duration R requested alpha index counted below refl after before refl gives

      part_of : (k : ℕ) → at (mean (rate R i) (rate R (i + 1)) (fraction R i t)) k ≡ at s.w k
      part_of k = ap (λ (v : List Float). at v k) (sym mean_of)

      between : WithinNodes nodes s
      between =
          let l = i_next in
          let a : i < 17 = omega arith in
          let b : i + 1 < 17 = omega arith in record {
            i = i;
            has_next = l;
            placed =
                amid (amid_as nodes i s (time_is nodes i a) (time_is nodes (i + 1) b) timed past upto part
                (λ z k h. exact_as (rate_is nodes i a k h) (part_of k) (means_null (rate R i) (rate R (i + 1)) (fraction R i t) (rate_plain i a) (rate_plain (i + 1) b) part.fit z k h)));
            rates =
                λ k h. bounded_as (rate_is nodes i a k h) (rate_is nodes (i + 1) b k h) (part_of k)
                (means_bounded (rate R i) (rate R (i + 1)) (fraction R i t) (rate_plain i a) (rate_plain (i + 1) b) part k h);
          }

    end_is : (k : ℕ) → sample j tol duration R requested alpha index ≡ at_node R k t → (s.w ≡ rate R k) × (s.t ≡ t)
    unfolding at_node
    end_is k e = let same = given_one (sym gives ∙ e) in (ap (λ (x : PathSample). x.w) same, ap (λ (x : PathSample). x.t) same)

    within : WithinNodes nodes s
    within = by (le t (time R 0)) (le (time R 16) t) refl refl
      where
        by : (a b : Bool) → le t (time R 0) ≡ a → le (time R 16) t ≡ b → WithinNodes nodes s
        by true b e f = let w = end_is 0 (first_node j tol duration R requested alpha index counted below refl e) in at_start s w.0 (le_as w.1 (sym (time_is nodes 0 (omega arith))) e)
        by false true e f = let w = end_is 16 (last_node j tol duration R requested alpha index counted below refl e f) in at_end s w.0 (le_as (sym (time_is nodes 16 (omega arith))) w.1 f)
        by false false e f = between e f

  -- SAMPLES: of every number, spacing and index that gives one
  pub sampled_within : (j : List (List Float)) (tol : Float) (requested : ℕ) (alpha : Float) (index : ℕ) (s : PathSample) → of_sampled (sample j tol duration R requested alpha index) ≡ Given s → WithinNodes nodes s
  sampled_within j tol requested alpha index s h = count (sample_count duration requested alpha) refl
    where
      g : sample j tol duration R requested alpha index ≡ Ok s
      g = given_is (sample j tol duration R requested alpha index) s h

      place : (n : ℕ) (b : Bool) → ltb index n ≡ b → sample_count duration requested alpha ≡ Some n → WithinNodes nodes s
      place n true l e = within j tol requested alpha index e (ltb-true index n l) g
      place n false l e = absurd (refused_given (past_count j tol R duration requested alpha index e (ltb-false index n l) ∙ g))

      count : (c : Option ℕ) → sample_count duration requested alpha ≡ c → WithinNodes nodes s
      count None e = absurd (refused_given (too_many j tol R duration requested alpha index e ∙ g))
      count (Some n) e = place n (ltb index n) refl e
