use Rattle.std.proofs.Common.{sym, ◌∙◌}
use Rattle.controls.proofs.short_row.Goals as goal

pub returns-then-is_bare : goal.returns-then-is_bare
returns-then-is_bare c = rw (sym c.is_bare.ensures ∙ c.if-is_bare.true)

pub returns : goal.returns
unfolding lib.Ieee.of_bits
returns c = rw (sym c.is_bare.ensures ∙ c.if-is_bare.false)
