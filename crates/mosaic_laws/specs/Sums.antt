-- The totals of two halves do not add up to the whole's bit for bit: three durations, evaluated. Assumes nothing.
use Rattle.std.specs.Prelude.{◌≡◌, refl, ◌≢◌, not, List, [], ◌∷◌, T, Float}
use Rattle.std.proofs.Common.{subst}
use Rattle.std.specs.Float.{binary64}
use Rattle.std.specs.Float.Ieee.{add, eq, of_bits}
use Rattle.common.specs.Floats.{plus_zero}
use Rattle.planner.specs.Plans.{blank_path}
use Rattle.planner.specs.declared.Planned.{Planned}
use Rattle.mosaic_laws.specs.Legs.{durations_onto}
use Rattle.common.specs.Refusals.{going}

-- a leg that takes d seconds
abbrev pub lasting : Float → Planned
lasting d = record {
  fate = going;
  runs = 1;
  path = record { duration = d; controls = 0; wheels = 0; iterations = 0; max_defect = plus_zero; z = blank_path.z; nodes = blank_path.nodes; held = blank_path.held };
}

-- 10.1 s, 10.2 s, 10.3 s
abbrev pub a : Planned
a = lasting (of_bits binary64 0x4024_3333_3333_3333)

abbrev pub b : Planned
b = lasting (of_bits binary64 0x4024_6666_6666_6666)

abbrev pub c : Planned
c = lasting (of_bits binary64 0x4024_9999_9999_999a)

-- the whole's total, and the two halves' totals added, where it is cut after the first leg: 30.599999999999998 and 30.6
abbrev pub total : Float
total = durations_onto plus_zero (a ∷ b ∷ c ∷ [])

abbrev pub halves : Float
halves = add binary64 (durations_onto plus_zero (a ∷ [])) (durations_onto plus_zero (b ∷ c ∷ []))

pub total_is : total ≡ of_bits binary64 0x403e_9999_9999_9999
unfolding add of_bits
total_is = refl

pub halves_are : halves ≡ of_bits binary64 0x403e_9999_9999_999a
unfolding add of_bits
halves_are = refl

-- TWO TOTALS DO NOT ADD UP
pub totals_not_add : total ≢ halves
unfolding add eq of_bits
totals_not_add h = subst (λ (x : Float). T (not (eq x halves))) h tt
