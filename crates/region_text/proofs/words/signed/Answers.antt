use Rattle.std.proofs.Common.{to_z-of_z}
use Rattle.std.specs.Int.{w64}
use Rattle.region_text.specs.Words.{signed}
use Rattle.region_text.specs.TextLaws.{clipped_most}
use Rattle.region_text.proofs.words.signed.Goals as goal

pub returns-in_err-n : goal.returns-in_err-n
unfolding signed
returns-in_err-n c = rw (c.from_residual.ensures, c.in_err-n.was)

pub with_sign-requires : goal.with_sign-requires
with_sign-requires c = rw c.clipped.ensures (clipped_most _)

pub returns : goal.returns
unfolding signed
returns c = rw (c.in_ok-n.was, to_z-of_z {w = w64} (record { sfits = c.with_sign.type_inv }), c.with_sign.ensures, c.clipped.ensures)
