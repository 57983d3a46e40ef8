use Rattle.std.proofs.Common.{arith}
use Rattle.wide.proofs.Products.{word_mul}
use Rattle.wide.proofs.product.high_product.Goals as goal

pub returns : goal.returns
returns c = omega (arith, word_mul c.args.u c.args.v)
