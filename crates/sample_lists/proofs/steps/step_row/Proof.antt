-- `sample_lists::steps::step_row` meets its contract, by those of what it calls. Assumes nothing.
use Rattle.sample_lists.specs.StagesInner.{step_row}
use borrow.Author.Rules.{rules}
use Rattle.sample_lists.proofs.steps.step_row.Statement.{statement}
use Rattle.sample_lists.proofs.steps.step_row.Tie as tie

returns : tie.Need-returns
unfolding step_row
returns c =
    rw (c.apply_tensor-u.ensures, c.rate_change-wd.ensures, c.rate-2.ensures, c.rate.ensures, c.time.ensures, c.time-t0.ensures)

pub step_row_spec : {M : Type 1} → statement M
step_row_spec =
    tie.close
    (tie.spec
    (λ c κs. search rules)
    (λ c. search rules)
    (λ c κs. search rules)
    (λ c κs. search rules)
    (λ c. search rules)
    (λ c κs. search rules)
    (λ c κs. search rules)
    (λ c κs. search rules)
    (λ c. search rules)
    (λ c. search rules)
    (λ c. search rules)
    (λ c. search rules)
    (λ c. search rules)
    (λ c. search rules)
    returns)
