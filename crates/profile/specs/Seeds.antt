-- The seed of our own entry: 17 nodes along a profile. Definitions only.
use Rattle.std.specs.Prelude.{ℕ, List, [], ◌++◌, pos, Float}
use Rattle.std.specs.Float.{binary64}
use Rattle.std.specs.Float.Ieee.{mul, div, of_bits, of_int}
use Rattle.common.specs.Iter.{iter}
use Rattle.profile.specs.Profiles.{omega_vec, torque_vec}
use Rattle.profile.specs.declared.Profile.{Profile}
use Rattle.profile.specs.declared.Seed.{Seed}

-- the time of node i: duration × i / 16
unfoldable pub node_time : Float → ℕ → Float
node_time duration i = div binary64 (mul binary64 duration (of_int binary64 (pos i))) (of_bits binary64 0x4030_0000_0000_0000)

-- what f gives at the times of the first n nodes, one after the other
abbrev pub nodes_to : (Float → List Float) → Float → ℕ → List Float
nodes_to f duration n = iter (λ i v. v ++ f (node_time duration i)) [] n

-- the body rates at the first n nodes, three numbers a node
unfoldable pub rates_to : Profile → ℕ → List Float
rates_to p n = nodes_to (omega_vec p) p.duration n

-- the body torques likewise
unfoldable pub torques_to : Profile → ℕ → List Float
torques_to p n = nodes_to (torque_vec p) p.duration n

-- the seed of a profile
abbrev pub sample_seed : Profile → Seed
sample_seed p = record { duration = p.duration; rates = rates_to p 17; torques = torques_to p 17 }
