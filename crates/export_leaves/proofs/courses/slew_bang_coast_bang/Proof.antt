-- `export_leaves::courses::slew_bang_coast_bang` meets its contract, by the contracts of what it calls. Assumes nothing.
use Rattle.export_leaves.specs.OutcomeLaws.{of_profiled_law, answered_at}
use borrow.Author.Rules.{rules}
use Rattle.export_leaves.proofs.courses.slew_bang_coast_bang.Statement.{statement}
use Rattle.export_leaves.proofs.courses.slew_bang_coast_bang.Tie as tie

returns : tie.Need-returns
returns c =
    rw (c.bang_coast_bang-p.ensures, c.limit_of-top.ensures, c.tensor-inertia.ensures, c.quat-to.ensures, c.quat-from.ensures)
    at (answered_at (of_profiled_law c.bang_coast_bang-p.result) c.place_of.ensures c.put_profile.ensures)

pub slew_bang_coast_bang_spec : {M : Type 1} → statement M
slew_bang_coast_bang_spec =
    tie.close
    (tie.spec
    (λ c κs. search rules) (λ c κs. search rules) (λ c κs. search rules) (λ c κs. search rules) (λ c κs. search rules)
    (λ c κs. search rules) (λ c κs. search rules) returns)
