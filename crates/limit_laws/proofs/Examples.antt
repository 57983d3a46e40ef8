-- The laws at work on a row of three body torques: our limits 0.5, 0.5 and none, the lab's 0.75, 0.25 and 1. Assumes nothing.
use Rattle.std.specs.Prelude.{◌≡◌, refl, false, List, [], ◌∷◌, Float}
use Rattle.std.proofs.Common.{sym, ◌∙◌}
use Rattle.std.specs.Float.{inf, binary64}
use Rattle.std.specs.Float.Ieee.{of_bits, lt, fits, neg, is_nan}
use Rattle.common.specs.Floats.{one}
use Rattle.common.specs.Iter.{iter}
use Rattle.common.specs.Lists.{at}
use Rattle.float.specs.Ops as Ops
use Rattle.float_laws.specs.Below.{below_three}
use Rattle.actuators.specs.Maps as Maps
use Rattle.control_rows.specs.Parts.{width}
use Rattle.control_limits.specs.Limits.{hold, limit_of, projected}
use Rattle.controls.specs.Controls.{row_fits_value, project_controls}
use Rattle.limit_laws.specs.Holds.{Limit, Number, endless}
use Rattle.limit_laws.specs.Rows.{row_limit, Limited, Numbers, smaller}
use Rattle.limit_laws.proofs.NestingLaws.{project_nested}

-- 0.25, 0.5, 0.75, 1, -2
abbrev quarter : Float
quarter = of_bits binary64 0x3fd0_0000_0000_0000

abbrev half : Float
half = of_bits binary64 0x3fe0_0000_0000_0000

abbrev three_quarters : Float
three_quarters = of_bits binary64 0x3fe8_0000_0000_0000

abbrev less_two : Float
less_two = of_bits binary64 0xc000_0000_0000_0000

-- our limits, the lab's, a row
abbrev ours : List Float
ours = half ∷ half ∷ inf false ∷ []

abbrev lab : List Float
lab = three_quarters ∷ quarter ∷ one ∷ []

abbrev row : List Float
row = one ∷ half ∷ less_two ∷ []

-- they are limits, and the row's numbers are numbers: the laws' premises can be met
ours_limited : Limited Maps.blank_map ours 3
unfolding row_fits_value width limit_of Maps.unfilled fits lt of_bits
ours_limited = below_three (λ i. Limit (row_limit Maps.blank_map ours i)) (record { fit = tt; over = tt }) (record { fit = tt; over = tt }) endless

lab_limited : Limited Maps.blank_map lab 3
unfolding row_fits_value width limit_of Maps.unfilled fits lt of_bits
lab_limited = below_three (λ i. Limit (row_limit Maps.blank_map lab i)) (record { fit = tt; over = tt }) (record { fit = tt; over = tt }) (record { fit = tt; over = tt })

row_numbers : Numbers Maps.blank_map row
unfolding row_fits_value width Maps.unfilled fits of_bits
row_numbers = below_three (λ i. Number (at row i)) (record { fit = tt; real = tt }) (record { fit = tt; real = tt }) (record { fit = tt; real = tt })

-- to ours 0.5, 0.5 and -2; then to the lab's 0.5, 0.25 and -1
held_to_ours : project_controls Maps.blank_map ours row ≡ half ∷ half ∷ less_two ∷ []
unfolding project_controls projected row_fits_value width limit_of Maps.unfilled hold Ops.clamp iter lt neg of_bits
held_to_ours = refl

held_to_both : project_controls Maps.blank_map lab (project_controls Maps.blank_map ours row) ≡ half ∷ quarter ∷ neg one ∷ []
unfolding project_controls projected row_fits_value width limit_of Maps.unfilled hold Ops.clamp iter lt neg of_bits
held_to_both = refl

-- the same by the law, with the smaller limits 0.5, 0.25 and 1
smaller_limits : smaller ours lab ≡ half ∷ quarter ∷ one ∷ []
unfolding Ops.min is_nan lt of_bits
smaller_limits = refl

held_to_smaller : project_controls Maps.blank_map (smaller ours lab) row ≡ half ∷ quarter ∷ neg one ∷ []
unfolding Maps.unfilled Ops.min of_bits
held_to_smaller = sym (project_nested Maps.blank_map Maps.blank_map ours lab row (record { wheels = refl; thrusters = refl; pyramid = refl }) ours_limited lab_limited row_numbers) ∙ held_to_both
