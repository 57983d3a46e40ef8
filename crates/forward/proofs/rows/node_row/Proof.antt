-- `forward::rows::node_row` meets its contract: the numbers of each part make it. Assumes nothing.
use mathlib.Core.Path.{◌≡◌}
use lib.ListN.{length}
use Rattle.forward.specs.RowLaws.{numbers_node}
use borrow.Author.Rules.{rules}
use Rattle.forward.proofs.rows.node_row.Statement.{statement}
use Rattle.forward.proofs.rows.node_row.Tie as tie

returns : tie.Need-returns
returns c =
    let w : length c.args.s.w ≡ 3 = search rules in
    let u : length c.args.tau ≡ 3 = search rules in
    let h : length c.args.s.h ≡ 3 = search rules in
    let m : length c.args.s.hw ≡ 8 = search rules in
    numbers_node _ _ _ _ w u h m

pub node_row_spec : {M : Type 1} → statement M
node_row_spec =
    tie.close
    (tie.spec
    (λ c. search rules)
    (λ c. search rules)
    (λ c. search rules)
    (λ c. search rules)
    (λ c. search rules)
    (λ c. search rules)
    (λ c. search rules)
    (λ c. search rules)
    (λ c. search rules)
    (λ c. search rules)
    (λ c. search rules)
    (λ c. search rules)
    (λ c. search rules)
    (λ c. search rules)
    (λ c. search rules)
    (λ c. search rules)
    (λ c. search rules)
    (λ c. search rules)
    (λ c. search rules)
    returns)
