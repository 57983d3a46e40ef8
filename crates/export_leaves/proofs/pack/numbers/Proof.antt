-- `export_leaves::pack::numbers` meets its contract: the same numbers in the same order. Assumes nothing.
use mathlib.Core.Path.{refl}
use Rattle.export_leaves.specs.Packed.{numbers}
use borrow.Author.Rules.{rules}
use Rattle.export_leaves.proofs.pack.numbers.Statement.{statement}
use Rattle.export_leaves.proofs.pack.numbers.Tie as tie

returns : tie.Need-returns
unfolding numbers
returns c = refl

pub numbers_spec : {M : Type 1} → statement M
numbers_spec =
    tie.close
    (tie.spec
    (λ c. search rules) (λ c. search rules) (λ c. search rules) (λ c. search rules) (λ c. search rules) (λ c. search rules)
    (λ c. search rules) (λ c. search rules) (λ c. search rules) (λ c. search rules) (λ c. search rules) (λ c. search rules)
    returns)
