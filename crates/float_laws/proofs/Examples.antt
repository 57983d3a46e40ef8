-- The test against a limit at work. Assumes nothing.
use Rattle.std.specs.Prelude.{false, pos, T, Float}
use Rattle.std.specs.Float.{fin, binary64}
use Rattle.std.specs.Float.Ieee.{sub, lt, fits, of_bits}
use Rattle.std.specs.Float.Ieee.Scale.{finite}
use Rattle.float.specs.Ops.{number, abs}
use Rattle.float_laws.specs.Limits.{Limit, Under}
use Rattle.float_laws.proofs.Limits.{bound}

abbrev one : Float
one = fin false 1 (pos 0)

-- 1 is a limit, and 1 passes the test against it
one_limit : Limit one
one_limit = record { fit = unfold fits in tt; fine = tt; over = unfold lt of_bits in tt }

one_under : Under one one
one_under = bound one one (unfold fits in tt) tt one_limit (unfold lt sub abs of_bits in tt)
