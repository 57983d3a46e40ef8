-- `read::digit` meets its contract, by the range that the byte stands in. Assumes nothing.
use Rattle.std.proofs.Common.{arith}
use Rattle.std.proofs.lemmas.Bool.{le-leb, lt-leb}
use Rattle.cases.specs.Words.{digit}
use Rattle.cases.proofs.read.digit.Goals as goal

pub returns-in-48-to-57-clause-is : goal.returns-in-48-to-57-clause-is
unfolding digit
returns-in-48-to-57-clause-is c = grind (arith, c.from.ensures, le-leb, lt-leb)

pub returns-in-97-to-102-clause-is : goal.returns-in-97-to-102-clause-is
unfolding digit
returns-in-97-to-102-clause-is c = grind (arith, c.from-in-97-to-102.ensures, le-leb, lt-leb)

pub returns-in_default-clause-is : goal.returns-in_default-clause-is
unfolding digit
returns-in_default-clause-is c = grind (arith, le-leb, lt-leb)

pub returns-in_default-2-clause-is : goal.returns-in_default-2-clause-is
unfolding digit
returns-in_default-2-clause-is c = grind (arith, le-leb, lt-leb)

pub returns-in_default-3-clause-is : goal.returns-in_default-3-clause-is
unfolding digit
returns-in_default-3-clause-is c = grind (arith, le-leb, lt-leb)
