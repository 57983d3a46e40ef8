-- `angles::arc::arc_term` meets its contract: `term_at` says that the term and the next p are the definition's, `term_fits` that they have room.
use Rattle.std.proofs.Common.{ℕ, ◌+◌, ◌*◌, ◌^◌, ◌≤◌, sym, subst, div-le_self, arith, rules}
use Rattle.angles.proofs.ArcTerms.{some_share, term_fits, term_at}
use Rattle.angles.proofs.arc.arc_term.Statement.{statement}
use Rattle.angles.proofs.arc.arc_term.Tie as tie

add-t8 : tie.Need-overflow_add-result
add-t8 c =
    let o = c.before in
    let s = o.before in
    let h : o.quotient.result ≤ s.args.a.p = subst (λ (z : ℕ). z ≤ s.args.a.p) (sym o.quotient.ensures) (div-le_self s.args.a.p (2 * s.args.n + 1)) in
    omega (arith, s.requires.2.room)

sub-high-product : tie.Need-overflow_sub-share
sub-high-product c = let s = c.before.before.before in some_share s.args.n s.requires.1

sub-high-product-2 : tie.Need-overflow_sub-share-2
sub-high-product-2 c = omega (arith, div-le_self (2 ^ 63) (c.args.n + 1))

returns : tie.Need-returns
returns c =
    let m = c.before in
    let o = m.before.before in
    let s = o.before in
    let a = s.args in (
      term_fits a.h a.n a.a m.mul_shift.result c.high_product.result s.requires.0 s.requires.1 s.requires.2 m.mul_shift.ensures c.high_product.ensures o.quotient.result o.quotient.ensures,
      term_at a.h a.n a.a m.mul_shift.result c.high_product.result s.requires.0 s.requires.1 s.requires.2 m.mul_shift.ensures c.high_product.ensures o.quotient.result o.quotient.ensures,
    )

pub arc_term_spec : {M : Type 1} → statement M
arc_term_spec =
    tie.close
    (tie.spec
    (λ c. search rules)
    (λ c. search rules)
    (λ c. search rules)
    (λ c. search rules)
    (λ c κs. search rules)
    add-t8
    (λ c κs. search rules)
    sub-high-product
    sub-high-product-2
    (λ c κs. search rules)
    returns)
