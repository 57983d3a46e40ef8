-- `angles::turn::place` meets its contract: quarters and rest of `split` make up the size, and of them `nearest_turn` has its contract.
use Rattle.std.proofs.Common.{ℕ, sym, subst, rules}
use Rattle.angles.specs.SizesInner.{TurnOf}
use Rattle.angles.proofs.turn.place.Statement.{statement}
use Rattle.angles.proofs.turn.place.Tie as tie

returns : tie.Need-returns
returns c =
    let t = c.nearest_turn.result in
    subst (λ (y : ℕ). TurnOf y t.quarter t.size t.below) (sym c.split-s.ensures.0) c.nearest_turn.ensures

pub place_spec : {M : Type 1} → statement M
place_spec = tie.close (tie.spec (λ c κs. search rules) (λ c κs. search rules) returns)
