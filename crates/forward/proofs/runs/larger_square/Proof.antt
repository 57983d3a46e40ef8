use mathlib.Core.Path.{sym, subst}
use lib.Dec.{T}
use Rattle.forward.specs.DefectLaws.{keeps, takes, takes_upright}
use Rattle.forward.proofs.runs.larger_square.Statement.{statement}
use Rattle.forward.proofs.runs.larger_square.Tie as tie

returns : tie.Need-returns-then-a-x
returns c =
    let s = c.before in
    let f = subst T (sym s.well_formed.0.1) tt in
    let g = subst T (sym s.well_formed.1.0.1) tt in
    (takes_upright c.args.a c.args.x f g c.requires c.if-a-x.true, takes c.args.a c.args.x f g c.requires c.if-a-x.true)

returns_2 : tie.Need-returns-else-a-x
returns_2 c =
    let s = c.before in
    let f = subst T (sym s.well_formed.0.1) tt in
    let g = subst T (sym s.well_formed.1.0.1) tt in
    (c.requires, keeps c.args.a c.args.x f g c.requires c.if-a-x.false)

pub larger_square_spec : {M : Type 1} → statement M
larger_square_spec = tie.close (tie.spec returns returns_2)
