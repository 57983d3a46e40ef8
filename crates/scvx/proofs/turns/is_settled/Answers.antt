-- `scvx::turns::is_settled` meets its contract: the same bits are the same float (`same_is`).
use mathlib.Core.Path.{◌≡◌, sym, ◌∙◌}
use lib.Ieee as Ieee
use Rattle.float_bits.specs.BitLaws.{both, same_is}
use Rattle.scvx.proofs.turns.is_settled.Goals as goal

pub returns : goal.returns
unfolding Ieee.of_bits
returns c e =
    let h = both c.same_bits.result c.same_bits-2.result e in
    (same_is _ _ (sym c.same_bits.ensures ∙ h.0), same_is _ _ (sym c.same_bits-2.ensures ∙ h.1))
