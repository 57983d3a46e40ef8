use Rattle.std.proofs.Common.{◌∙◌}
use Rattle.sample_lists.specs.StageLaws.{amidst_is}
use Rattle.sample_lists.proofs.stages.amidst.Goals as goal

pub returns : goal.returns
returns c =
    c.turned_by.ensures
    ∙ amidst_is _ _ _ _ _ _ c.step_time.ensures c.rate.ensures c.rate-2.ensures c.mean-w.ensures c.momentum.ensures c.momentum-2.ensures c.mean-h.ensures
    c.apply_tensor.ensures c.add3-l.ensures c.step_torque.ensures c.cross.ensures c.add3-tau.ensures c.attitude.ensures
