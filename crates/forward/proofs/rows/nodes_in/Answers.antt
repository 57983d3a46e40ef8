use Rattle.std.proofs.Common.{rules, arith, ℕ, ◌≡◌, ◌<◌, sym, ◌∙◌, length, get_or, set, ext_get_or, get_or-set_same, get_or-set_other, below_more}
use Rattle.forward.specs.Runs.{no_node}
use Rattle.forward.specs.Rows.{node_from, nodes_from, row_at}
use Rattle.forward.specs.RowLaws.{nodes_at, nodes_length}
use Rattle.forward.proofs.rows.nodes_in.Goals as goal

pub loop-k-init : goal.loop-k-init
loop-k-init c = (search rules, λ i h. let e : i ≡ 0 = omega arith in rw e c.node_in-first.ensures)

pub loop-k-preserved : goal.loop-k-preserved
loop-k-preserved c =
    let l = c.loop-k in
    let rows = c.args.rows.now in
    let small : l.k < 17 = search rules in (
      search rules,
      below_more (λ i. get_or (set l.nodes l.k c.node_in.result) i no_node ≡ node_from (row_at rows i)) l.k
          (λ i b. get_or-set_other l.nodes l.k i _ no_node (λ e. omega arith) ∙ l.invariant.1 i b)
          (get_or-set_same l.nodes l.k _ no_node (omega (arith, l.invariant.0, small)) ∙ c.node_in.ensures),
    )

pub returns : goal.returns
returns c =
    let l = c.loop-k in
    let rows = c.args.rows.now in
    let long : length rows ≡ 17 = c.requires in
    let all : l.k ≡ 17 = search rules in
    ext_get_or no_node l.nodes (nodes_from rows) (l.invariant.0 ∙ sym (nodes_length rows ∙ long))
    (λ i h. l.invariant.1 i (omega (arith, l.invariant.0, all)) ∙ sym (nodes_at rows i (omega (arith, l.invariant.0, long))))
