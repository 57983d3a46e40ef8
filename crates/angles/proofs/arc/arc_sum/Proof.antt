-- `angles::arc::arc_sum` meets its contract: the parts join to all sixty terms.
use Rattle.std.proofs.Common.{arith, rules}
use Rattle.angles.specs.EndedInner.{ArcRun}
use Rattle.angles.specs.EndedLaws.{formed_all, arc_end}
use Rattle.angles.proofs.arc.arc_sum.Statement.{statement}
use Rattle.angles.proofs.arc.arc_sum.Tie as tie

abbrev start : tie.After-arc_terms-f → tie.Start
start c = c.before.before.before.before.before.before.before

-- the parts join to all sixty terms
joined : (c : tie.After-arc_terms-f) → ArcRun (start c).args.h (start c).args.s 60 c.arc_terms-f.result
joined c =
    let e = c.before in
    let d = e.before in
    let b = d.before in
    let a = b.before in
    let z = a.before in
    let s = (start c).args.s in
    c.arc_terms-f.ensures.1 s (e.arc_terms-e.ensures.1 s (d.arc_terms-d.ensures.1 s (b.arc_terms-c.ensures.1 s (a.arc_terms-b.ensures.1 s (z.arc_terms-a.ensures.1 s z.first_part-first.ensures.1)))))

returns : tie.Need-returns-then-f-eq0
returns c =
    let l = c.before.before in
    let r = joined l in
    (arc_end _ _ _ _ (start l).requires.1 r.summed (formed_all _ 60 (omega arith) (r.going c.if-f-eq0.true)), omega (arith, l.arc_terms-f.ensures.0.room))

returns_2 : tie.Need-returns-else-f-eq0
returns_2 c =
    let l = c.before.before in
    let r = joined l in
    (arc_end _ _ _ _ (start l).requires.1 r.summed (r.ended c.if-f-eq0.false), omega (arith, l.arc_terms-f.ensures.0.room))

pub arc_sum_spec : {M : Type 1} → statement M
arc_sum_spec =
    tie.close
    (tie.spec
    (λ c κs. search rules)
    (λ c κs. search rules)
    (λ c κs. search rules)
    (λ c κs. search rules)
    (λ c κs. search rules)
    (λ c κs. search rules)
    (λ c κs. search rules)
    returns
    returns_2)
