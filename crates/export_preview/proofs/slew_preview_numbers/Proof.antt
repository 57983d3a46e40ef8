-- `export_preview::slew_preview_numbers` meets its contract, by the contracts of what it calls. Assumes nothing.
use borrow.Author.Rules.{rules}
use Rattle.export_preview.proofs.slew_preview_numbers.Statement.{statement}
use Rattle.export_preview.proofs.slew_preview_numbers.Tie as tie

returns : tie.Need-returns
returns c =
    let is = rw (c.problem_of-p.ensures, c.momenta_of-m.ensures) at c.preview-made.ensures.0 in (
      record { plan_told = rw is at c.put_planned.ensures; left = rw (c.preview-made.ensures.1.0, is) },
      (rw (c.put_began.ensures.0, is), rw (c.put_began.ensures.1, is)),
    )

pub slew_preview_numbers_spec : {M : Type 1} → statement M
slew_preview_numbers_spec =
    tie.close
    (tie.spec
    (λ c κs. search rules) (λ c κs. search rules) (λ c κs. search rules) (λ c κs. search rules) (λ c κs. search rules)
    (λ c. search rules) returns)
