-- `profile::sample_seed`: the first 3 i numbers of both lists are those of the first i nodes.
use Rattle.std.proofs.Common.{◌≡◌, ◌*◌, length, take}
use Rattle.profile.specs.Seeds.{rates_to, torques_to}
use Rattle.profile.proofs.sample_seed.Given as goal

abbrev pub invariant-loop-i : goal.invariant-loop-i
invariant-loop-i l =
    ((length l.rates ≡ 51) × (length l.torques ≡ 51))
    × ((take (3 * l.i) l.rates ≡ rates_to l.p l.i) × (take (3 * l.i) l.torques ≡ torques_to l.p l.i))
