-- `angles::series::quotient` meets its contract: `as_product` says that the product's upper word is the quotient while q * d is below 2^64.
use Rattle.std.proofs.Common.{◌∙◌, arith, rules}
use Rattle.angles.proofs.Division.{share_fits, as_product}
use Rattle.angles.proofs.series.quotient.Statement.{statement}
use Rattle.angles.proofs.series.quotient.Tie as tie

add-high-product : tie.Need-overflow_add-d
add-high-product c = omega (arith, share_fits c.args.d c.requires.0)

returns : tie.Need-returns
returns c = let s = c.before in c.high_product.ensures ∙ as_product s.args.d s.requires.0 s.args.q s.requires.1

pub quotient_spec : {M : Type 1} → statement M
quotient_spec = tie.close (tie.spec (λ c. search rules) add-high-product (λ c κs. search rules) returns)
