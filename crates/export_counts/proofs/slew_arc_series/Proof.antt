-- `export_counts::slew_arc_series` meets its contract, by the contracts of what it calls. Assumes nothing.
use borrow.Author.Rules.{rules}
use Rattle.export_counts.proofs.slew_arc_series.Statement.{statement}
use Rattle.export_counts.proofs.slew_arc_series.Tie as tie

returns : tie.Need-returns
returns c = let is = c.arc_series.ensures in (rw (c.put_series.ensures.0, is), rw (c.put_series.ensures.1, is))

pub slew_arc_series_spec : {M : Type 1} → statement M
slew_arc_series_spec = tie.close (tie.spec (λ c κs. search rules) (λ c κs. search rules) returns)
