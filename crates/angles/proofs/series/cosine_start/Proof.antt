-- `angles::series::cosine_start` meets its contract: the first stage is the definition's for every u, by computing.
use Rattle.std.proofs.Common.{refl}
use Rattle.angles.specs.SizesInner.{term_of, sum_of}
use Rattle.angles.specs.EndedInner.{count_of}
use Rattle.angles.proofs.series.cosine_start.Statement.{statement}
use Rattle.angles.proofs.series.cosine_start.Tie as tie

returns : tie.Need-returns
unfolding sum_of term_of count_of
returns c = λ u. refl

pub cosine_start_spec : {M : Type 1} → statement M
cosine_start_spec = tie.close (tie.spec returns)
