-- `profile::bang_coast_bang` meets its contract: each way out is a case of the definition, told by the tests on the way. Assumes nothing.
use borrow.Author.Rules.{rules}
use lib.Ieee.{of_bits, neg}
use Rattle.profile.specs.Profiles.{bang_coast_bang, with_relative}
use Rattle.profile.proofs.bang_coast_bang.Statement.{statement}
use Rattle.profile.proofs.bang_coast_bang.Tie as tie

returns : tie.Need-returns-then-n
unfolding bang_coast_bang with_relative of_bits
returns c = rw (c.refused.ensures, ← c.relative-rel.ensures, ← c.norm3-n.ensures, c.if-n.true)

returns_2 : tie.Need-returns-then-abs-tie
unfolding bang_coast_bang with_relative of_bits neg
returns_2 c =
    rw (c.refused-then-abs-tie.ensures, ← c.relative-rel.ensures, ← c.norm3-n.ensures, c.if-n.false, ← c.clamp-dotted.ensures, ← c.abs.ensures, c.if-abs-tie.true)

returns_3 : tie.Need-returns
unfolding bang_coast_bang with_relative of_bits neg
returns_3 c =
    rw (c.with_half.ensures, c.acos.ensures, ← c.relative-rel.ensures, ← c.norm3-n.ensures, c.if-n.false, ← c.clamp-dotted.ensures, ← c.abs.ensures, c.if-abs-tie.false)

pub bang_coast_bang_spec : {M : Type 1} → statement M
bang_coast_bang_spec =
    tie.close
    (tie.spec
    (λ c κs. search rules) (λ c κs. search rules) (λ c κs. search rules) returns (λ c κs. search rules) (λ c κs. search rules) (λ c κs. search rules)
    returns_2 (λ c κs. search rules) (λ c κs. search rules) returns_3)
