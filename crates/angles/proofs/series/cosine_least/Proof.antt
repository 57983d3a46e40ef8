-- `angles::series::cosine_least` meets its contract: each arm is the definition's entry, and what no arm names is 7 (`seventh`).
use Rattle.std.proofs.Common.{sym, ap, rules}
use Rattle.angles.specs.EndedInner.{least_of}
use Rattle.angles.proofs.Stages.{seventh}
use Rattle.angles.proofs.series.cosine_least.Statement.{statement}
use Rattle.angles.proofs.series.cosine_least.Tie as tie

returns-8 : tie.Need-returns-in_default
returns-8 c = let r = c.in_default.in_default-own.rest in ap (least_of 0) (sym (seventh c.args.j c.requires r.0.0.0.0.0.0.1 r.0.0.0.0.0.1 r.0.0.0.0.1 r.0.0.0.1 r.0.0.1 r.0.1 r.1))

pub cosine_least_spec : {M : Type 1} → statement M
cosine_least_spec =
    tie.close
    (tie.spec (λ c. search rules) (λ c. search rules) (λ c. search rules) (λ c. search rules) (λ c. search rules) (λ c. search rules) (λ c. search rules) returns-8)
