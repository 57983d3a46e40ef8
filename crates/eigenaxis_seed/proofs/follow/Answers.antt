-- `follow` meets its contract: each part of the motion is its callee's contract, in the definition's order.
use Rattle.eigenaxis_seed.specs.Seeds as Seeds
use Rattle.eigenaxis_seed.proofs.follow.Goals as goal

pub returns : goal.returns
unfolding Seeds.momenta_after
returns c =
    let wheel-momentum-rates = c.wheel_momentum_rates-rates in
    let charged = c.charged-hw2 in
    let rate-after = c.rate_after-w2 in
    rw (c.gimbals_next-delta2.ensures, c.body_momentum-h2.ensures, rate-after.ensures, charged.ensures, wheel-momentum-rates.ensures)
