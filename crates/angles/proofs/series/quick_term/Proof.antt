-- `angles::series::quick_term` meets its contract: a lower word of at least `least` makes the upper word the term (`term_quick`), else `next_term`.
use Rattle.std.proofs.Common.{ℕ, ◌+◌, ◌-◌, ◌*◌, ◌/◌, ◌^◌, ◌<◌, ap, ◌∙◌, subst, arith, rules}
use Rattle.angles.specs.SizesInner.{square_of}
use Rattle.angles.proofs.Quick.{factor_fits, term_quick}
use Rattle.angles.proofs.series.quick_term.Statement.{statement}
use Rattle.angles.proofs.series.quick_term.Tie as tie

add-k : tie.Need-overflow_add-k
add-k c =
    let s = c.before in
    let h : c.high_product-k.result + 2 < 2 ^ 64 = rw c.high_product-k.ensures (factor_fits s.args.square s.args.d s.requires.1 (omega arith)) in
    omega (arith, h)

returns : tie.Need-returns-then-least-low_product
returns c =
    let l = c.before in
    let g = l.before in
    let h = g.before in
    let s = h.before in
    let a = s.args in
    term_quick a.t a.u a.d h.high_product-k.result g.high_product-r.result l.low_product.result s.requires.1 (subst (λ (z : ℕ). z < 2 ^ 64) s.requires.3 (omega arith))
    (h.high_product-k.ensures ∙ ap (λ (z : ℕ). z * ((2 ^ 64 - 1) / a.d) / 2 ^ 64) s.requires.3) g.high_product-r.ensures l.low_product.ensures s.requires.4 c.if-least-low_product.true

pub quick_term_spec : {M : Type 1} → statement M
quick_term_spec =
    tie.close
    (tie.spec
    (λ c. search rules)
    (λ c κs. search rules)
    add-k
    (λ c κs. search rules)
    (λ c κs. search rules)
    returns
    (λ c κs. search rules)
    (λ c. search rules))
