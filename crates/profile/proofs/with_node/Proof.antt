-- `profile::with_node` meets its contract: three stores put the vector behind the numbers before it. Assumes nothing.
use Prim.Native.Nat.{◌*◌}
use mathlib.Core.Path.{◌≡◌}
use native.Mathlib.Omega.{arith}
use borrow.Author.Rules.{rules}
use lib.ListN.{length}
use Rattle.profile.proofs.Nodes.{put_node}
use Rattle.profile.proofs.with_node.Statement.{statement}
use Rattle.profile.proofs.with_node.Tie as tie

returns : tie.Need-returns
returns c =
    let l : length c.args.v ≡ 51 = search rules in
    put_node c.args.v c.args.w (3 * c.args.i) (omega arith) (search rules)

pub with_node_spec : {M : Type 1} → statement M
with_node_spec =
    tie.close
    (tie.spec
    (λ c. search rules) (λ c. search rules) (λ c. search rules) (λ c. search rules) (λ c. search rules) (λ c. search rules) (λ c. search rules)
    (λ c. search rules) (λ c. search rules) (λ c. search rules) (λ c. search rules) (λ c. search rules) (λ c. search rules) (λ c. search rules)
    returns)
