use Rattle.reference.specs.Prepare.{prepare_layout}
use Rattle.reference.proofs.prepare.prepare_layout.Goals as goal

pub returns-in_default : goal.returns-in_default
unfolding prepare_layout
returns-in_default c = rw (← c.gram_inverse.ensures, c.in_default.is)

pub returns-in_default-rotation_vector : goal.returns-in_default-rotation_vector
unfolding prepare_layout
returns-in_default-rotation_vector c = rw (← c.gram_inverse.ensures, c.in-Ok.is, ← c.rotation_vector.ensures, c.in_default-rotation_vector.is)

pub returns : goal.returns
unfolding prepare_layout
returns c = rw (← c.gram_inverse.ensures, c.in-Ok.is, ← c.rotation_vector.ensures, c.in-Some.is, c.reference_of.ensures)
