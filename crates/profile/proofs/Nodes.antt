-- Nodes of three numbers that are stored one after the other. Assumes nothing.
use Prim.Native.Nat.{ℕ, suc, ◌+◌, ◌*◌, ◌≤◌, ◌<◌}
use mathlib.Core.Path.{◌≡◌, refl, sym, ◌∙◌}
use mathlib.Core.List.{List, [], ◌∷◌, ◌++◌, append_assoc}
use native.Mathlib.Omega.{arith}
use lib.ListN.{length, take, set, length-set}
use lib.Seq.{take-suc-set, take_all}
use lib.Ieee.{Float}
use Rattle.common.specs.Iter.{iter}
use Rattle.common.specs.IterLaws.{iter_next}
use Rattle.common.specs.Lists.{at}

-- a vector is its three numbers
three : (w : List Float) → length w ≡ 3 → at w 0 ∷ at w 1 ∷ at w 2 ∷ [] ≡ w
three [] h = absurd (omega arith)
three (a ∷ []) h = absurd (omega arith)
three (a ∷ b ∷ []) h = absurd (omega arith)
three (a ∷ b ∷ c ∷ []) h = refl
three (a ∷ b ∷ c ∷ d ∷ l) h = absurd (omega arith)

-- one number more
one_more : (v : List Float) (k : ℕ) (x : Float) → k < length v → take (k + 1) (set v k x) ≡ take k v ++ (x ∷ [])
one_more v k x h = let e : k + 1 ≡ suc k = omega arith in rw e (take-suc-set v k x h)

-- three stores put a vector behind the numbers before them
pub put_node : (v w : List Float) (k : ℕ) → k + 3 ≤ length v → length w ≡ 3 → take (k + 3) (set (set (set v k (at w 0)) (k + 1) (at w 1)) (k + 2) (at w 2)) ≡ take k v ++ w
put_node v w k h l =
    let a : List Float = set v k (at w 0) in
    let b : List Float = set a (k + 1) (at w 1) in
    let la : length a ≡ length v = length-set v k (at w 0) in
    let lb : length b ≡ length a = length-set a (k + 1) (at w 1) in
    let e2 : k + 1 + 1 ≡ k + 2 = omega arith in
    let e3 : k + 2 + 1 ≡ k + 3 = omega arith in
    let p1 : take (k + 1) a ≡ take k v ++ (at w 0 ∷ []) = one_more v k (at w 0) (omega arith) in
    let p2 : take (k + 2) b ≡ take (k + 1) a ++ (at w 1 ∷ []) = rw e2 at (one_more a (k + 1) (at w 1) (omega arith)) in
    let p3 : take (k + 3) (set b (k + 2) (at w 2)) ≡ take (k + 2) b ++ (at w 2 ∷ []) = rw e3 at (one_more b (k + 2) (at w 2) (omega arith)) in
    rw (p3, p2, p1, append_assoc, append_assoc, three w l)

-- one node more
pub next_node : (g : ℕ → List Float) (i : ℕ) (v r : List Float) → take (3 * i) v ≡ iter (λ k s. s ++ g k) [] i → take (3 * i + 3) r ≡ take (3 * i) v ++ g i → take (3 * (i + 1)) r ≡ iter (λ k s. s ++ g k) [] (i + 1)
next_node g i v r p q = let e : 3 * (i + 1) ≡ 3 * i + 3 = omega arith in rw e (iter_next (λ k s. s ++ g k) [] i p q)

-- all nodes: nothing lies behind them
pub all_nodes : (v t : List Float) (i : ℕ) → length v ≤ 3 * i → take (3 * i) v ≡ t → v ≡ t
all_nodes v t i h p = sym (take_all (3 * i) v h) ∙ p
