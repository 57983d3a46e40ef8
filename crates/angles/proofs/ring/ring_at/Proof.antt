-- `angles::ring::ring_at` meets its contract: `placed` says that the size and the sign at place q make the ring's number.
use Rattle.std.proofs.Common.{rules}
use Rattle.angles.proofs.Places.{placed}
use Rattle.angles.proofs.ring.ring_at.Statement.{statement}
use Rattle.angles.proofs.ring.ring_at.Tie as tie

returns : tie.Need-returns
returns c =
    let n = c.before in
    let z = n.before in
    let s = z.before in
    placed s.args.q s.args.below s.args.u s.requires.0 s.requires.1 n.negative_at.ensures z.size_at.ensures c.to_float.ensures

pub ring_at_spec : {M : Type 1} → statement M
ring_at_spec = tie.close (tie.spec (λ c κs. search rules) (λ c κs. search rules) (λ c κs. search rules) returns)
