-- `angles::ring::size_of` meets its contract: an even place has the sine's size (`even_size`), an odd one the cosine's (`odd_size`).
use Rattle.std.proofs.Common.{◌∙◌}
use Rattle.angles.proofs.Places.{even_size, odd_size}
use Rattle.angles.proofs.ring.size_of.Statement.{statement}
use Rattle.angles.proofs.ring.size_of.Tie as tie

returns : tie.Need-returns-then-q-eq0
returns c u s k = s ∙ even_size c.args.q u c.requires c.if-q-eq0.true

returns_2 : tie.Need-returns-else-q-eq0
returns_2 c u s k = k ∙ odd_size c.args.q u c.requires c.if-q-eq0.false

pub size_of_spec : {M : Type 1} → statement M
size_of_spec = tie.close (tie.spec returns returns_2)
