-- `angles::series::term_after` meets its contract: each quick term has its room.
use Rattle.std.proofs.Common.{arith, rules}
use Rattle.angles.proofs.Quick.{room_third, room_fourth, room_later}
use Rattle.angles.proofs.series.term_after.Statement.{statement}
use Rattle.angles.proofs.series.term_after.Tie as tie

quick-term-requires : tie.Need-quick_term-requires
quick-term-requires c κs = let s = c.before.before in let q = s.requires.4.third (omega arith) in (s.requires.0, s.requires.1, s.requires.2, s.requires.3, room_third _ _ _ q.0 q.1)

quick-term-requires-2 : tie.Need-quick_term-requires-then-j-eq3
quick-term-requires-2 c κs = let s = c.before.before.before in let q = s.requires.4.fourth (omega arith) in (s.requires.0, s.requires.1, s.requires.2, s.requires.3, room_fourth _ _ _ q.0 q.1)

quick-term-requires-3 : tie.Need-quick_term-requires-2
quick-term-requires-3 c κs = let s = c.before.before.before in let q = s.requires.4.later (omega arith) in (s.requires.0, s.requires.1, s.requires.2, s.requires.3, room_later _ _ _ q.0 q.1)

pub term_after_spec : {M : Type 1} → statement M
term_after_spec =
    tie.close
    (tie.spec
    (λ c κs. search rules)
    (λ c. search rules)
    (λ c. search rules)
    (λ c. search rules)
    quick-term-requires
    (λ c. search rules)
    (λ c. search rules)
    (λ c. search rules)
    quick-term-requires-2
    (λ c. search rules)
    (λ c. search rules)
    (λ c. search rules)
    quick-term-requires-3
    (λ c. search rules))
