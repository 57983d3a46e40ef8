-- `export_leaves::courses::slew_switch_times` meets its contract, by the contracts of what it calls. Assumes nothing.
use borrow.Author.Rules.{rules}
use Rattle.export_leaves.proofs.courses.slew_switch_times.Statement.{statement}
use Rattle.export_leaves.proofs.courses.slew_switch_times.Tie as tie

returns : tie.Need-returns
returns c = rw (c.switch_times.ensures, c.limit_of.ensures) at c.put_switches.ensures

pub slew_switch_times_spec : {M : Type 1} → statement M
slew_switch_times_spec = tie.close (tie.spec (λ c κs. search rules) (λ c κs. search rules) (λ c κs. search rules) returns)
