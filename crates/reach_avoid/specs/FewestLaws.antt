-- The fewest turns, against the turns in which the drive wins. Assumes nothing.
use Prim.Native.Nat.{ℕ, zero, suc, ◌<◌, ◌≤◌}
use native.Mathlib.Omega.{arith}
use Rattle.std.specs.Prelude.{◌≡◌, Bool, cond, ◌⊎◌, eqb}
use Rattle.std.proofs.Math.Path.{refl}
use Rattle.std.proofs.Common.{sym, ap, ◌∙◌}
use Rattle.std.proofs.Math.Bool.{true, false}
use Rattle.std.proofs.Math.Logic.{inl, inr}
use Rattle.std.proofs.Math.Dec.{ltb}
use borrow.Author.Tests.{ltb-true, ltb-false, lt-ltb, le-ltb, eqb-true, eqb-false}
use Rattle.reach_avoid.specs.Game.{Game, wins, fewest}
use Rattle.reach_avoid.specs.GameLaws.{wins_more}

module _ {S U D : Type 0} (G : Game S U D) (none : ℕ) (s : S) where
  -- it is a number of turns, or `none`
  pub fewest_range : (m : ℕ) → (fewest G none m s ≡ none) ⊎ (fewest G none m s ≤ m)
  unfolding fewest
  fewest_range zero = by (G.home s)
    where
      by : (b : Bool) → (cond b 0 none ≡ none) ⊎ (cond b 0 none ≤ 0)
      by true = inr (omega arith)
      by false = inl refl
  fewest_range (suc m) = by (fewest_range m) (eqb (fewest G none m s) none) (wins G (suc m) s)
    where
      by : (fewest G none m s ≡ none) ⊎ (fewest G none m s ≤ m) → (b w : Bool) → (cond b (cond w (suc m) none) (fewest G none m s) ≡ none) ⊎ (cond b (cond w (suc m) none) (fewest G none m s) ≤ suc m)
      by h true true = inr (omega arith)
      by h true false = inl refl
      by (inl h) false w = inl h
      by (inr h) false w = inr (omega arith)

  -- one turn more: what is to be shown of the places up to m + 1
  below_turn : (m : ℕ) → suc m < none → (f : ℕ) → (f ≡ none) ⊎ (f ≤ m) → ((j : ℕ) → j ≤ m → ltb f (suc j) ≡ wins G j s) → (j : ℕ) → j ≤ suc m
      → (t b w : Bool) → ltb j (suc m) ≡ t → eqb f none ≡ b → wins G (suc m) s ≡ w → ltb (cond b (cond w (suc m) none) f) (suc j) ≡ wins G j s
  below_turn m h f r all j l true true true e q z = let a : j < suc m = ltb-true _ _ e in le-ltb (suc m) (suc j) (omega arith) ∙ sym (le-ltb f (suc j) (let c : f ≡ none = eqb-true _ _ q in omega arith)) ∙ all j (omega arith)
  below_turn m h f r all j l true true false e q z = let a : j < suc m = ltb-true _ _ e in let c : f ≡ none = eqb-true _ _ q in ap (λ x. ltb x (suc j)) (sym c) ∙ all j (omega arith)
  below_turn m h f r all j l true false w e q z = let a : j < suc m = ltb-true _ _ e in all j (omega arith)
  below_turn m h f r all j l false true true e q z = let a : suc m ≤ j = ltb-false _ _ e in let i : j ≡ suc m = omega arith in lt-ltb (suc m) (suc j) (omega arith) ∙ sym z ∙ ap (λ x. wins G x s) (sym i)
  below_turn m h f r all j l false true false e q z = let a : suc m ≤ j = ltb-false _ _ e in let i : j ≡ suc m = omega arith in le-ltb none (suc j) (omega arith) ∙ sym z ∙ ap (λ x. wins G x s) (sym i)
  below_turn m h f (inl r) all j l false false w e q z = absurd (eqb-false _ _ q r)
  below_turn m h f (inr r) all j l false false w e q z =
      let a : suc m ≤ j = ltb-false _ _ e in
      let i : j ≡ suc m = omega arith in
      lt-ltb f (suc j) (omega arith) ∙ sym (wins_more G m s (sym (all m (omega arith)) ∙ lt-ltb f (suc m) (omega arith))) ∙ ap (λ x. wins G x s) (sym i)

  -- it is at most j exactly where the drive wins in j turns
  pub fewest_wins : (m : ℕ) → m < none → (j : ℕ) → j ≤ m → ltb (fewest G none m s) (suc j) ≡ wins G j s
  unfolding fewest wins
  fewest_wins zero h j l = let i : j ≡ 0 = omega arith in rw i (by (G.home s))
    where
      by : (b : Bool) → ltb (cond b 0 none) 1 ≡ b
      by true = refl
      by false = le-ltb none 1 (omega arith)
  fewest_wins (suc m) h j l =
      below_turn m h (fewest G none m s) (fewest_range m) (fewest_wins m (omega arith)) j l (ltb j (suc m)) (eqb (fewest G none m s) none) (wins G (suc m) s) refl refl refl

  -- it is 0 exactly at home
  pub fewest_home : (m : ℕ) → m < none → ltb (fewest G none m s) 1 ≡ G.home s
  unfolding wins
  fewest_home m h = fewest_wins m h 0 (omega arith)
