-- `angles::series::sine_start` meets its contract: u is zero or not, and the count of the first stage says which.
use Rattle.std.proofs.Common.{ℕ, sym, ap, arith}
use Rattle.angles.specs.SizesInner.{term_of, sum_of}
use Rattle.angles.specs.EndedInner.{tally, count_of}
use Rattle.angles.proofs.Stages.{tally_some}
use Rattle.angles.proofs.series.sine_start.Statement.{statement}
use Rattle.angles.proofs.series.sine_start.Tie as tie

returns : tie.Need-returns-then-u-eq0
unfolding sum_of term_of count_of
returns c = ap (λ (x : ℕ). record { sum = x; term = x; terms = tally x }) (sym c.if-u-eq0.true)

returns_2 : tie.Need-returns-else-u-eq0
unfolding sum_of term_of count_of
returns_2 c = ap (λ (k : ℕ). record { sum = c.args.u; term = c.args.u; terms = k }) (tally_some c.args.u (omega arith))

pub sine_start_spec : {M : Type 1} → statement M
sine_start_spec = tie.close (tie.spec returns returns_2)
