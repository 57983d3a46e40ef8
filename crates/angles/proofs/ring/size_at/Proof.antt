-- `angles::ring::size_at` meets its contract: an even place has the sine's sum (`even_size`), an odd one the cosine's (`odd_size`).
use Rattle.std.proofs.Common.{false, ap, ◌∙◌, rules}
use Rattle.angles.specs.declared.series.Ended.{Ended}
use Rattle.angles.specs.EndedLaws.{sine_size, cosine_size}
use Rattle.angles.proofs.Places.{even_size, odd_size}
use Rattle.angles.proofs.ring.size_at.Statement.{statement}
use Rattle.angles.proofs.ring.size_at.Tie as tie

returns : tie.Need-returns-then-q-eq0
returns c =
    let s = c.before.before in
    ap (λ (e : Ended). e.sum) (c.sine_size-e.ensures false) ∙ sine_size s.args.u s.requires.1 ∙ even_size s.args.q s.args.u s.requires.0 c.if-q-eq0.true

returns_2 : tie.Need-returns-else-q-eq0
returns_2 c =
    let s = c.before.before in
    ap (λ (e : Ended). e.sum) (c.cosine_size-e.ensures false) ∙ cosine_size s.args.u s.requires.1 ∙ odd_size s.args.q s.args.u s.requires.0 c.if-q-eq0.false

pub size_at_spec : {M : Type 1} → statement M
size_at_spec = tie.close (tie.spec (λ c κs. search rules) (λ c κs. search rules) returns returns_2)
