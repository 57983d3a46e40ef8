-- `residuals::terms::closing` meets its contract: the five terms in order. Assumes nothing.
use mathlib.Core.Path.{◌≡◌, refl, sym, ap, ◌∙◌}
use native.Mathlib.Omega.{arith}
use lib.Ieee as Ieee
use Rattle.forward.specs.Rows.{node_from}
use Rattle.forward.specs.RowLaws.{nodes_at}
use Rattle.residuals.specs.Residuals as Residuals
use borrow.Author.Rules.{rules}
use Rattle.residuals.proofs.terms.closing.Statement.{statement}
use Rattle.residuals.proofs.terms.closing.Tie as tie

energy-requires : tie.Need-energy-requires
unfolding Ieee.of_bits
energy-requires c κs =
    let s = c.requires.1.1 in ((s.few, s.long), s.energy)

smooth-requires : tie.Need-smooth-requires
unfolding Ieee.of_bits
smooth-requires c κs =
    let s = c.requires.1.1 in rw c.changes.ensures ((omega (arith, s.few), s.long), s.smooth)

returns : tie.Need-returns
unfolding Residuals.closing Ieee.of_bits node_from
returns c =
    let momenta-in = c.momenta_in-hw in
    let effort = c.effort in
    let weighted = c.weighted-control in
    let energy = c.energy in
    let weighted2 = c.weighted-spent in
    let smooth = c.smooth in
    rw (
      c.sqrt.ensures,
      weighted.ensures,
      effort.ensures,
      weighted2.ensures,
      energy.ensures,
      c.weighted-change.ensures,
      smooth.ensures,
      c.sqrt-2.ensures,
      c.stored.ensures,
      momenta-in.ensures,
      nodes_at c.args.nodes.now 16 (omega (arith, c.requires.1.1.long)),
    )

pub closing_spec : {M : Type 1} → statement M
closing_spec =
    tie.close
    (tie.spec
    (λ c. search rules)
    (λ c. search rules)
    (λ c. search rules)
    (λ c κs. search rules)
    (λ c κs. search rules)
    (λ c κs. search rules)
    energy-requires
    (λ c κs. search rules)
    (λ c κs. search rules)
    smooth-requires
    (λ c κs. search rules)
    (λ c κs. search rules)
    (λ c. search rules)
    (λ c. search rules)
    (λ c. search rules)
    (λ c. search rules)
    (λ c. search rules)
    (λ c. search rules)
    (λ c. search rules)
    (λ c. search rules)
    (λ c. search rules)
    (λ c. search rules)
    (λ c. search rules)
    (λ c κs. search rules)
    (λ c κs. search rules)
    (λ c. search rules)
    (λ c. search rules)
    (λ c. search rules)
    returns)
