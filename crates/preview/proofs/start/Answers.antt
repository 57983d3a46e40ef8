-- `preview::start` meets its contract: `commit` is called with the definition's arguments, by `answered` and `last_momenta`.
use Rattle.preview.proofs.start.Goals as goal

pub returns : goal.returns
returns c = rw (c.commit.ensures, c.answered.ensures, c.last_momenta-last.ensures)
