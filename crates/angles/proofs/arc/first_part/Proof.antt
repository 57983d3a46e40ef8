-- `angles::arc::first_part` meets its contract: a root of 0 ends the series at once (`run_none`), any other goes on (`run_first`).
use Rattle.std.proofs.Common.{rules}
use Rattle.angles.proofs.ArcTerms.{first_fits}
use Rattle.angles.proofs.ArcEnds.{run_none, run_first}
use Rattle.angles.proofs.arc.first_part.Statement.{statement}
use Rattle.angles.proofs.arc.first_part.Tie as tie

returns : tie.Need-returns-then-s-eq0
returns c = let m = c.before in let s = m.before in (first_fits s.args.h s.args.s m.mul_shift-q.result s.requires.1 s.requires.0 m.mul_shift-q.ensures, run_none s.args.h s.args.s s.requires.1 m.mul_shift-q.result m.mul_shift-q.ensures c.if-s-eq0.true)

returns_2 : tie.Need-returns-else-s-eq0
returns_2 c = let m = c.before in let s = m.before in (first_fits s.args.h s.args.s m.mul_shift-q.result s.requires.1 s.requires.0 m.mul_shift-q.ensures, run_first s.args.h s.args.s s.requires.1 m.mul_shift-q.result m.mul_shift-q.ensures c.if-s-eq0.false)

pub first_part_spec : {M : Type 1} → statement M
first_part_spec = tie.close (tie.spec (λ c κs. search rules) returns returns_2)
