use Rattle.reference.proofs.plan.refuse.Goals as goal

pub returns : goal.returns
returns c = rw c.blank_reference.ensures
