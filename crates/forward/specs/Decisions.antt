-- A decision: a duration and 16 rows of controls, packed as 1 + 16 c numbers, c to a row. Definitions only.
use Rattle.std.specs.Prelude.{ℕ, ◌+◌, ◌*◌, List, set, Float}
use Rattle.std.specs.Float.{binary64}
use Rattle.std.specs.Float.Ieee.{div, of_bits}
use Rattle.common.specs.Iter.{iter}
use Rattle.common.specs.Lists.{at, slice, pasted}
use Rattle.float.specs.Ops.{max, clamp}
use Rattle.actuators.specs.Maps.{control_dim}
use Rattle.actuators.specs.declared.ActuatorMap.{ActuatorMap}
use Rattle.controls.specs.Controls.{project_controls}

-- the numbers of a decision with c controls a row
abbrev pub packed_len : ℕ → ℕ
packed_len c = 1 + 16 * c

-- row k
abbrev pub row_of : ℕ → List Float → ℕ → List Float
row_of c z k = slice (1 + k * c) (1 + k * c + c) z

-- 16.0
abbrev pub sixteen : Float
sixteen = of_bits binary64 0x4030_0000_0000_0000

-- the time of one step
abbrev pub step_time : List Float → Float
step_time z = div binary64 (at z 0) sixteen

-- ---- a trial's or a column's decision
-- 1e-6
abbrev pub least_duration : Float
least_duration = of_bits binary64 0x3eb0_c6f7_a0b5_ed8d

-- the Rust's `unpack`: the duration is at least 1e-6; a NaN becomes that
abbrev pub unpack : List Float → List Float
unpack z = set z 0 (max (at z 0) least_duration)

-- 0.001 and 10,000
abbrev pub shortest : Float
shortest = of_bits binary64 0x3f50_624d_d2f1_a9fc

abbrev pub longest : Float
longest = of_bits binary64 0x40c3_8800_0000_0000

-- row k, each control held to its limit
abbrev pub project_turn : ActuatorMap → List Float → ℕ → List Float → List Float
project_turn m limit k z = pasted z (1 + k * control_dim m) (1 + k * control_dim m + control_dim m) (project_controls m limit (row_of (control_dim m) z k))

-- the duration held within 0.001..10,000, then the 16 rows
unfoldable pub project_decision : ActuatorMap → List Float → List Float → List Float
project_decision m limit z = iter (project_turn m limit) (set z 0 (clamp shortest longest (at z 0))) 16
