-- Each call's value is the definition's, in its order; `between_is` puts them together.
use Rattle.std.proofs.Common.{◌∙◌}
use Rattle.samples.specs.SampleLaws.{between_is}
use Rattle.samples.proofs.nodes.between.Goals as goal

pub returns : goal.returns
returns c =
    c.turned.ensures
    ∙ between_is _ _ _ _ _ _ c.time-t0.ensures c.time.ensures c.rate-w0.ensures c.rate-w1.ensures c.mean-w.ensures
    c.momentum.ensures c.momentum-2.ensures c.mean-h.ensures c.rate_change-wd.ensures c.euler_lhs-tau.ensures
    c.attitude-q.ensures c.rotation.ensures
