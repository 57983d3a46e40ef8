-- `angles::arc::arc_cosine` meets its contract: the ended sum is the full one.
use Rattle.std.proofs.Common.{ℕ, ◌*◌, ◌^◌, false, ap, ◌∙◌, rules}
use lib.Ieee.{binary64, round}
use Rattle.angles.specs.declared.series.Ended.{Ended}
use Rattle.angles.specs.Arcs.{arc_of}
use Rattle.angles.specs.EndedLaws.{arc_size}
use Rattle.angles.proofs.arc.arc_cosine.Statement.{statement}
use Rattle.angles.proofs.arc.arc_cosine.Tie as tie

returns : tie.Need-returns
unfolding arc_of
returns c =
    let e = c.before.before in
    c.over_60.ensures ∙ ap (λ (a : ℕ). round binary64 false (2 * a) (2 ^ 60)) (ap (λ (r : Ended). r.sum) e.arc_ended-e.ensures.0 ∙ arc_size e.args.w)

pub arc_cosine_spec : {M : Type 1} → statement M
arc_cosine_spec = tie.close (tie.spec (λ c κs. search rules) (λ c. search rules) (λ c κs. search rules) returns)
