-- `angles::counted::arc_series` meets its contract: the two comparisons are together the definition's test, and inside `arc_ended` answers.
use Rattle.std.proofs.Common.{◌≡◌, Bool, true, false, cond, sym, ap, ◌∙◌, Some, None, ℕ}
use lib.Ieee.{Float}
use Rattle.angles.specs.declared.series.Ended.{Ended}
use Rattle.angles.specs.Arcs.{in_unit}
use Rattle.angles.specs.Ended.{arc_at, arc_series, end_of}
use Rattle.angles.proofs.Tests.{and_yes, and_no}
use Rattle.angles.proofs.counted.arc_series.Statement.{statement}
use Rattle.angles.proofs.counted.arc_series.Tie as tie

-- the answer by the test
by : (w : Float) (b : Bool) → in_unit w ≡ b → cond b (Some ((end_of (arc_at w)).sum, (end_of (arc_at w)).terms)) None ≡ arc_series w
unfolding arc_series
by w b e = ap (λ (b : Bool). cond b (Some ((end_of (arc_at w)).sum, (end_of (arc_at w)).terms)) None) (sym e)

arc-ended-requires : tie.Need-arc_ended-e-requires
unfolding in_unit
arc-ended-requires c κs = sym (and_yes _ _ c.if-w.true) ∙ c.if-w-2.true

returns : tie.Need-returns-then-w-2
unfolding in_unit
returns c =
    let t = c.before in
    ap (λ (e : Ended). Some (e.sum, e.terms)) c.arc_ended-e.ensures.0 ∙ by _ true (sym (and_yes _ _ t.if-w.true) ∙ t.if-w-2.true)

returns_2 : tie.Need-returns-else-w-2
unfolding in_unit
returns_2 c = by _ false (sym (and_yes _ _ c.if-w.true) ∙ c.if-w-2.false)

returns_3 : tie.Need-returns-else-w
unfolding in_unit
returns_3 c = by _ false (sym (and_no _ _ c.if-w.false))

pub arc_series_spec : {M : Type 1} → statement M
arc_series_spec = tie.close (tie.spec arc-ended-requires returns returns_2 returns_3)
