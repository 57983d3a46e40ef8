-- What a sample's 13 numbers say of the sample, and when there are none. Assumes nothing.
use Rattle.std.specs.Prelude.{◌≡◌, Bool, ◌&&◌, ◌||◌, ℕ, T, eqb, ltb, ℤ, Float, Option, Some, None, Ok, Err}
use Rattle.std.proofs.Math.Path.{refl, ap, subst}
use Rattle.std.proofs.Common.{sym, ap₂, ◌∙◌}
use Rattle.std.proofs.Math.Bool.{true, false, cond}
use mathlib.Core.List.{List, [], ◌∷◌}
use Rattle.std.specs.Float.Ieee.{le}
use Rattle.geom.specs.Quats.{quat_mul, exp_so3, normalized}
use Rattle.samples.specs.Counts.{sample_count}
use Rattle.samples.specs.Samples.{Sampled, time, at_node, normed_by, turned_by, turned, between, earlier, interpolate, time_of, sample_by, sample}
use Rattle.samples.specs.Samples as Samples
use Rattle.samples.specs.declared.PathSample.{PathSample}
use Rattle.drive_numbers.specs.declared.Unit.{Unit}
use Rattle.drive_numbers.specs.Numbers.{part}
use Rattle.drive_numbers.specs.Drive.{inside, number, all, numbers, wholes, parts, Driven, refused, given, numbered, drive, drive_sample}
use Rattle.drive_numbers.specs.Rounding.{Numbered}
use Rattle.drive_numbers.proofs.Laws.{number_says, says_number}
use Rattle.geom.specs.declared.Quat.{Quat}

-- each part has its number
pub data Each : List (Float × Unit) → List ℤ → Type 0 where
  none : Each [] []
  one : {x : Float} {u : Unit} {n : ℤ} {ms : List (Float × Unit)} {ns : List ℤ} → Numbered x u n → Each ms ns → Each ((x, u) ∷ ms) (n ∷ ns)

inside_is : (w : Option ℤ) → T (inside w) → w ≡ Some (number w)
inside_is (Some n) h = refl
inside_is None h = absurd h

all_each : (ms : List (Float × Unit)) → T (all (wholes ms)) → Each ms (numbers (wholes ms))
all_each [] h = none
all_each (m ∷ ms) h = by (inside (part m.0 m.1)) (inside_is (part m.0 m.1)) h (all_each ms)
  where
    by : (b : Bool) → (T b → part m.0 m.1 ≡ Some (number (part m.0 m.1))) → T (b && all (wholes ms)) → (T (all (wholes ms)) → Each ms (numbers (wholes ms)))
        → Each (m ∷ ms) (number (part m.0 m.1) ∷ numbers (wholes ms))
    by true k h r = one (number_says m.0 m.1 _ (k tt)) (r h)
    by false k h r = absurd h

each_all : {ms : List (Float × Unit)} {ns : List ℤ} → Each ms ns → (all (wholes ms) ≡ true) × (numbers (wholes ms) ≡ ns)
each_all none = (refl, refl)
each_all (one {x} {u} {n} p r) =
    let e = says_number x u n p in
    let k = each_all r in
    (ap₂ (λ (a b : Bool). a && b) (ap inside e) k.0, ap₂ (λ (a : ℤ) (b : List ℤ). a ∷ b) (ap number e) k.1)

abbrev is_given : Driven → Bool
is_given (Ok ns) = true
is_given (Err why) = false

differ : (ns : List ℤ) (index : ℕ) → given ns ≡ refused 24 index → ⊥
differ ns index e = subst (λ (d : Driven). T (is_given d)) e tt

given_one : {ms ns : List ℤ} → given ms ≡ given ns → ms ≡ ns
given_one h = cc

module _ (s : PathSample) (index : ℕ) where
  -- the 13 numbers are given exactly where each part has its number, and they are those
  pub numbers_say : (ns : List ℤ) → numbered s index ≡ given ns → Each (parts s) ns
  unfolding numbered
  numbers_say ns h = by (all (wholes (parts s))) (all_each (parts s)) h
    where
      by : (b : Bool) → (T b → Each (parts s) (numbers (wholes (parts s)))) → cond b (given (numbers (wholes (parts s)))) (refused 24 index) ≡ given ns → Each (parts s) ns
      by true k e = subst (λ (l : List ℤ). Each (parts s) l) (given_one e) (k tt)
      by false k e = absurd (differ ns index (sym e))

  pub say_numbers : (ns : List ℤ) → Each (parts s) ns → numbered s index ≡ given ns
  unfolding numbered
  say_numbers ns h = let k = each_all h in rw k.0 (ap given k.1)

  -- 24 exactly where a part has none
  pub refused_says : numbered s index ≡ refused 24 index → (ns : List ℤ) → Each (parts s) ns → ⊥
  refused_says h ns k = differ ns index (sym (say_numbers ns k) ∙ h)

  pub says_refused : ((ns : List ℤ) → Each (parts s) ns → ⊥) → numbered s index ≡ refused 24 index
  unfolding numbered
  says_refused h = by (all (wholes (parts s))) (all_each (parts s))
    where
      by : (b : Bool) → (T b → Each (parts s) (numbers (wholes (parts s)))) → cond b (given (numbers (wholes (parts s)))) (refused 24 index) ≡ refused 24 index
      by true k = absurd (h _ (k tt))
      by false k = refl

-- the sample's own refusal comes first; a given sample is written
module _ (j : List (List Float)) (tol duration : Float) (nodes : List (List Float)) (requested : ℕ) (alpha : Float) (index : ℕ) where
  pub own_refusal : (n p : ℕ) → sample j tol duration nodes requested alpha index ≡ Samples.refused n p → drive_sample j tol duration nodes requested alpha index ≡ refused n p
  unfolding drive_sample
  own_refusal n p h = ap (λ (r : Sampled). drive r index) h

  pub written : (s : PathSample) → sample j tol duration nodes requested alpha index ≡ Samples.given s → drive_sample j tol duration nodes requested alpha index ≡ numbered s index
  unfolding drive_sample
  written s h = ap (λ (r : Sampled). drive r index) h

-- ---- a sample's own refusal is 20, 5 or 11, so 24 is the drive board's alone
abbrev pub own : Sampled → Bool
own (Ok s) = true
own (Err why) = eqb why.number 20 || (eqb why.number 5 || eqb why.number 11)

own_normed : (x : Option Quat) (s : PathSample) (index : ℕ) → T (own (normed_by x s index))
own_normed None s index = tt
own_normed (Some q) s index = tt

own_turned : (x : Option Quat) (tol : Float) (s : PathSample) (index : ℕ) → T (own (turned_by x tol s index))
own_turned None tol s index = tt
own_turned (Some e) tol s index = own_normed (normalized tol (quat_mul s.q e)) s index

own_between : (j : List (List Float)) (tol : Float) (nodes : List (List Float)) (i : ℕ) (t : Float) (index : ℕ) → T (own (between j tol nodes i t index))
unfolding between turned
own_between j tol nodes i t index = own_turned (exp_so3 _) tol _ index

own_interpolate : (j : List (List Float)) (tol : Float) (nodes : List (List Float)) (t : Float) (index : ℕ) → T (own (interpolate j tol nodes t index))
unfolding interpolate at_node
own_interpolate j tol nodes t index = by (le t (time nodes 0)) (le (time nodes 16) t)
  where
    by : (a b : Bool) → T (own (cond a (at_node nodes 0 t) (cond b (at_node nodes 16 t) (between j tol nodes (earlier nodes t) t index))))
    by true b = tt
    by false true = tt
    by false false = own_between j tol nodes (earlier nodes t) t index

module _ (j : List (List Float)) (tol duration : Float) (nodes : List (List Float)) (requested : ℕ) (alpha : Float) (index : ℕ) where
  own_counted : (c : Option ℕ) → T (own (sample_by c j tol duration nodes index))
  own_counted None = tt
  own_counted (Some n) = by (ltb index n)
    where
      by : (b : Bool) → T (own (cond b (interpolate j tol nodes (time_of duration n index) index) (Samples.refused 20 1)))
      by true = own_interpolate j tol nodes (time_of duration n index) index
      by false = tt

  pub sample_own : T (own (sample j tol duration nodes requested alpha index))
  unfolding sample
  sample_own = own_counted (sample_count duration requested alpha)

  pub never_24 : (p : ℕ) → sample j tol duration nodes requested alpha index ≡ Samples.refused 24 p → ⊥
  never_24 p h = subst (λ (r : Sampled). T (own r)) h sample_own
