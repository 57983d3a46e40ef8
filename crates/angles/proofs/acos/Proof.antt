-- `angles::acos` meets its contract: the two comparisons are together the definition's test, and inside `arc_cosine` answers.
use Rattle.std.proofs.Common.{◌≡◌, Bool, true, false, cond, sym, ap, ◌∙◌, Some, None}
use lib.Ieee.{Float}
use Rattle.angles.specs.Arcs.{in_unit, arc_of, acos_of}
use Rattle.angles.proofs.Tests.{and_yes, and_no}
use Rattle.angles.proofs.acos.Statement.{statement}
use Rattle.angles.proofs.acos.Tie as tie

-- the answer by the test
by : (w : Float) (b : Bool) → in_unit w ≡ b → cond b (Some (arc_of w)) None ≡ acos_of w
unfolding acos_of
by w b e = ap (λ (b : Bool). cond b (Some (arc_of w)) None) (sym e)

arc-cosine-requires : tie.Need-arc_cosine-requires
unfolding in_unit
arc-cosine-requires c κs = sym (and_yes _ _ c.if-w.true) ∙ c.if-w-2.true

returns : tie.Need-returns-then-w-2
unfolding in_unit
returns c =
    let t = c.before in
    ap Some c.arc_cosine.ensures ∙ by _ true (sym (and_yes _ _ t.if-w.true) ∙ t.if-w-2.true)

returns_2 : tie.Need-returns-else-w-2
unfolding in_unit
returns_2 c = by _ false (sym (and_yes _ _ c.if-w.true) ∙ c.if-w-2.false)

returns_3 : tie.Need-returns-else-w
unfolding in_unit
returns_3 c = by _ false (sym (and_no _ _ c.if-w.false))

pub acos_spec : {M : Type 1} → statement M
acos_spec = tie.close (tie.spec arc-cosine-requires returns returns_2 returns_3)
