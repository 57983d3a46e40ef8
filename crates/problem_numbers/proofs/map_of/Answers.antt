use Rattle.problem_numbers.proofs.map_of.Goals as goal

pub returns : goal.returns
returns c = rw (c.unwrap_or.ensures, c.prepare.ensures, c.blank_map.ensures, c.actuators_of.ensures)
