-- `angles::ring::both_at` meets its contract: `placed` says of q and of the next place that size and sign make the ring's number.
use Rattle.std.proofs.Common.{false, ap, ◌∙◌, rules}
use Rattle.angles.specs.declared.series.Ended.{Ended}
use Rattle.angles.specs.EndedLaws.{sine_size, cosine_size}
use Rattle.angles.proofs.Places.{placed, next_four}
use Rattle.angles.proofs.ring.both_at.Statement.{statement}
use Rattle.angles.proofs.ring.both_at.Tie as tie

returns : tie.Need-returns
returns c =
    let n2 = c.before in
    let z2 = n2.before in
    let f = z2.before in
    let n = f.before in
    let z = n.before in
    let v = z.before in
    let s = v.before in
    let a = s.args in
    let e = v.both_sizes-sums.ensures false in
    let i = ap (λ (e : Ended). e.sum) e.0 ∙ sine_size a.u s.requires.1 in
    let k = ap (λ (e : Ended). e.sum) e.1 ∙ cosine_size a.u s.requires.1 in (
      placed a.q a.below a.u s.requires.0 s.requires.1 n.negative_at.ensures (z.size_of.ensures a.u i k) f.to_float.ensures,
      placed _ a.below a.u (next_four a.q) s.requires.1 n2.negative_at-2.ensures (z2.size_of-2.ensures a.u i k) c.to_float-2.ensures,
    )

pub both_at_spec : {M : Type 1} → statement M
both_at_spec =
    tie.close
    (tie.spec
    (λ c κs. search rules)
    (λ c. search rules)
    (λ c κs. search rules)
    (λ c κs. search rules)
    (λ c κs. search rules)
    (λ c κs. search rules)
    (λ c κs. search rules)
    (λ c κs. search rules)
    returns)
