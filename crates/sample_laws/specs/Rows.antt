-- A path's rows by its nodes: row k is node k's, with its time and its rate. Assumes nothing.
use Rattle.std.specs.Prelude.{◌≡◌, List, [], ℕ, suc, ◌<◌, get_or, length, set, replicate, Float}
use Rattle.std.proofs.Common.{ap, ◌∙◌, arith, length-set, get_or-set_same, get_or-set_other}
use Rattle.std.proofs.lemmas.List.{length-replicate}
use Rattle.common.specs.Floats as Floats
use Rattle.common.specs.Lists.{at}
use Rattle.geom.specs.Vec as Vec
use Rattle.float_laws.specs.Below.{below_three, below_next, below_turns}
use Rattle.forward.specs.Runs.{no_node}
use Rattle.forward.specs.declared.Node.{Node}
use Rattle.forward.specs.Runs.{node_at}
use Rattle.samples.specs.Samples.{time, rate}
use Rattle.samples.specs.Rows.{row, rows, row_turn}

record Filled (nodes : List Node) (n : ℕ) (l : List (List Float)) : Type 0 where
  pub long : length l ≡ 17
  pub done : (k : ℕ) → k < n → Vec.row l k ≡ row (node_at nodes k)

fill : (nodes : List Node) (n : ℕ) → n < 17 → (l : List (List Float)) → Filled nodes n l → Filled nodes (suc n) (row_turn nodes n l)
fill nodes n h l s =
    let r = row (get_or nodes n no_node) in record {
      long = length-set l n r ∙ s.long;
      done =
          below_next (λ k. Vec.row (set l n r) k ≡ row (node_at nodes k)) n
          (get_or-set_same l n r [] (let e = s.long in omega arith))
          (λ k b. get_or-set_other l n k r [] (λ e. omega (arith, e, b)) ∙ s.done k b);
    }

pub row_is : (nodes : List Node) (k : ℕ) → k < 17 → Vec.row (rows nodes) k ≡ row (node_at nodes k)
unfolding rows
row_is nodes =
    (below_turns (Filled nodes) (row_turn nodes) (replicate 17 (replicate 22 Floats.plus_zero)) 17 (fill nodes)
    (record { long = length-replicate 17 (replicate 22 Floats.plus_zero); done = λ k b. absurd (omega (arith, b)) })).done

pub time_is : (nodes : List Node) (k : ℕ) → k < 17 → time (rows nodes) k ≡ (node_at nodes k).t
unfolding row
time_is nodes k h = ap (λ (v : List Float). at v 0) (row_is nodes k h)

pub rate_is : (nodes : List Node) (k : ℕ) → k < 17 → (i : ℕ) → i < 3 → at (rate (rows nodes) k) i ≡ at (node_at nodes k).w i
unfolding row
rate_is nodes k h =
    below_three (λ (i : ℕ). at (rate (rows nodes) k) i ≡ at (node_at nodes k).w i)
    (ap (λ (v : List Float). at v 5) (row_is nodes k h)) (ap (λ (v : List Float). at v 6) (row_is nodes k h)) (ap (λ (v : List Float). at v 7) (row_is nodes k h))
