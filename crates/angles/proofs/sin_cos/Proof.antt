-- `angles::sin_cos` meets its contract: region by region; inside, `both_at` has the ring's place at the quarters of `reduced` and the next.
use Rattle.std.proofs.Common.{Float, true, sym, refl, ◌∙◌, ap₂, rules, Some}
use Rattle.angles.proofs.Regions.{is_outside, is_tiny, is_inside}
use Rattle.angles.proofs.Answered.{both_by, sine_at_law, cosine_at_law}
use Rattle.angles.proofs.sin_cos.Statement.{statement}
use Rattle.angles.proofs.sin_cos.Tie as tie

returns : tie.Need-returns-then-is_tiny
returns c =
    let t = c.before in
    let r = t.before.before in
    both_by _ (is_tiny _ _ _ r.in_range.ensures t.is_tiny.ensures t.if-in_range.true c.if-is_tiny.true) refl

reduced-requires : tie.Need-reduced-t-requires
reduced-requires c κs =
    let t = c.before in
    let r = t.before.before in
    sym (is_inside _ _ _ r.in_range.ensures t.is_tiny.ensures t.if-in_range.true c.if-is_tiny.false)

returns_2 : tie.Need-returns-else-is_tiny
returns_2 c =
    let d = c.before in
    let m = d.before in
    let t = m.before in
    let r = t.before.before in
    ap₂ (λ (s c : Float). Some (s, c)) (sine_at_law d.reduced-t.ensures c.both_at-b.ensures.0) (cosine_at_law d.reduced-t.ensures c.both_at-b.ensures.1) ∙ both_by _ (is_inside _ _ _ r.in_range.ensures t.is_tiny.ensures t.if-in_range.true m.if-is_tiny.false) refl

returns_3 : tie.Need-returns-else-in_range
returns_3 c = both_by _ (is_outside _ _ true c.in_range.ensures c.if-in_range.false) refl

pub sin_cos_spec : {M : Type 1} → statement M
sin_cos_spec =
    tie.close
    (tie.spec
    (λ c κs. search rules)
    (λ c κs. search rules)
    returns
    reduced-requires
    (λ c κs. search rules)
    returns_2
    returns_3)
