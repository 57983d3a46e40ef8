-- `scvx::columns::same_decision` meets its contract: two decisions have 193 numbers each, and agree in all.
use Rattle.std.proofs.Common.{rules}
use mathlib.Core.Path.{◌≡◌, sym, ◌∙◌}
use lib.ListN.{length}
use lib.Seq.{ext_get_or}
use lib.Ieee.{nan}
use native.Mathlib.Omega.{arith}
use Rattle.scvx.proofs.columns.same_decision.Goals as goal

pub same_front-requires : goal.same_front-requires
same_front-requires c =
    let y : length c.args.y.now ≡ 193 = search rules in
    let z : length c.args.z.now ≡ 193 = search rules in
    (omega (arith, y), omega (arith, z))

pub returns : goal.returns
returns c h =
    let a = c.args in
    let y : length a.y.now ≡ 193 = search rules in
    let z : length a.z.now ≡ 193 = search rules in
    ext_get_or nan a.y.now a.z.now (y ∙ sym z) (λ i l. c.same_front.ensures h i (omega (arith, y)))
