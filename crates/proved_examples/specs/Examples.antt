-- docs/SPECIFICATION.md, "Examples": each example as what the definitions work out beside what is stated there, in one list, with one fact over all of
-- it that the checker computes. Assumes nothing.
use Rattle.std.specs.Prelude.{ℕ, ◌≡◌, refl, List, [], ◌∷◌, pos, Some, None}
use lib.Ieee.{Float, binary64, neg, of_bits, of_int}
use Rattle.common.specs.Answer.{Answer, Given, Refused}
use Rattle.angles.specs.Arcs.{acos_of}
use Rattle.angles.specs.Answers.{angle_answer}
use Rattle.geom.specs.Vec as Vec
use Rattle.geom.specs.Quats as Quats
use Rattle.geom.specs.Tensors as Tensors
use Rattle.geom.specs.Answers.{of_turned, of_rotation, of_inverse}
use Rattle.geom.specs.declared.Quat.{Quat}
use Rattle.profile.specs.Profiles.{switch_times}
use Rattle.profile.specs.Answers.{of_switches}
use Rattle.elimination.specs.Elimination.{Solution, Solved, Singular, solve_dense}

-- a whole number as a float, and a half and a quarter
abbrev f : ℕ → Float
f n = of_int binary64 (pos n)

abbrev half : Float
half = of_bits binary64 0x3fe0_0000_0000_0000

abbrev quarter : Float
quarter = of_bits binary64 0x3fd0_0000_0000_0000

-- ---- what an example works out: numbers, a refusal, or "singular"; a refusal is never an empty list of numbers
pub data Result : Type 0 where
  Numbers : List Float → Result
  NoAnswer : ℕ → ℕ → ℕ → Result
  NoSolution : Result

abbrev numbers : Answer (List Float) → Result
numbers (Given x) = Numbers x
numbers (Refused n k runs) = NoAnswer n k runs

abbrev attitude : Answer Quat → Result
attitude (Given q) = Numbers (q.w ∷ q.x ∷ q.y ∷ q.z ∷ [])
attitude (Refused n k runs) = NoAnswer n k runs

abbrev number : Answer Float → Result
number (Given x) = Numbers (x ∷ [])
number (Refused n k runs) = NoAnswer n k runs

abbrev solution : Solution → Result
solution Singular = NoSolution
solution (Solved x) = Numbers x

abbrev diag : List (List Float)
diag = (f 1 ∷ f 0 ∷ f 0 ∷ []) ∷ (f 0 ∷ f 2 ∷ f 0 ∷ []) ∷ (f 0 ∷ f 0 ∷ f 4 ∷ []) ∷ []

-- ---- the list
pub record Example : Type 0 where
  pub computed : Result
  pub stated : Result

abbrev is : Result → Result → Example
is c s = record { computed = c; stated = s }

abbrev pub examples : List Example
examples =
    -- exp(0,0,0) = (1,0,0,0)
    is (attitude (of_turned (Quats.exp_so3 (f 0 ∷ f 0 ∷ f 0 ∷ [])))) (Numbers (f 1 ∷ f 0 ∷ f 0 ∷ f 0 ∷ []))
    -- log(-1,0,0,0) = three negative zeros
    ∷ is (numbers (of_rotation (Quats.log_so3 (Quats.quat (neg (f 1)) (f 0) (f 0) (f 0))))) (Numbers (neg (f 0) ∷ neg (f 0) ∷ neg (f 0) ∷ []))
    -- norm3(3,4,0) = 5
    ∷ is (Numbers (Quats.norm3 (f 3 ∷ f 4 ∷ f 0 ∷ []) ∷ [])) (Numbers (f 5 ∷ []))
    -- inverse of diag(1,2,4) = diag(1,0.5,0.25)
    ∷ is (numbers (of_inverse (Tensors.invert_spd diag))) (Numbers (f 1 ∷ f 0 ∷ f 0 ∷ f 0 ∷ half ∷ f 0 ∷ f 0 ∷ f 0 ∷ quarter ∷ []))
    -- euler_lhs, diag(1,2,4), w (1,1,0), rest zero: (0,0,1)
    ∷ is (Numbers (Vec.euler_lhs diag (f 0 ∷ f 0 ∷ f 0 ∷ []) (f 1 ∷ f 1 ∷ f 0 ∷ []) (f 0 ∷ f 0 ∷ f 0 ∷ []))) (Numbers (f 0 ∷ f 0 ∷ f 1 ∷ []))
    -- torque_excess, (2,-3,1) against ones: 2
    ∷ is (Numbers (Vec.torque_excess (f 2 ∷ neg (f 3) ∷ f 1 ∷ []) (f 1 ∷ f 1 ∷ f 1 ∷ []) ∷ [])) (Numbers (f 2 ∷ []))
    -- switch_times(4,1): no limit, limit 2, limit 1
    ∷ is (numbers (of_switches (switch_times (f 4) (f 1) None))) (Numbers (f 2 ∷ f 0 ∷ f 2 ∷ []))
    ∷ is (numbers (of_switches (switch_times (f 4) (f 1) (Some (f 2))))) (Numbers (f 2 ∷ f 0 ∷ f 2 ∷ []))
    ∷ is (numbers (of_switches (switch_times (f 4) (f 1) (Some (f 1))))) (Numbers (f 1 ∷ f 3 ∷ f 1 ∷ []))
    -- rows (0,2),(4,0) with (6,8): (2,3)
    ∷ is (solution (solve_dense 2 ((f 0 ∷ f 2 ∷ []) ∷ (f 4 ∷ f 0 ∷ []) ∷ []) (f 6 ∷ f 8 ∷ []))) (Numbers (f 2 ∷ f 3 ∷ []))
    -- one row 0: singular; as the only row, and as one of two
    ∷ is (solution (solve_dense 1 ((f 0 ∷ []) ∷ []) (f 6 ∷ []))) NoSolution
    ∷ is (solution (solve_dense 2 ((f 4 ∷ f 2 ∷ []) ∷ (f 0 ∷ f 0 ∷ []) ∷ []) (f 6 ∷ f 8 ∷ []))) NoSolution
    -- acos 1 = 0
    ∷ is (number (angle_answer (acos_of (f 1)))) (Numbers (f 0 ∷ []))
    ∷ []

abbrev pub computed_all : List Example → List Result
computed_all [] = []
computed_all (e ∷ es) = e.computed ∷ computed_all es

abbrev pub stated_all : List Example → List Result
stated_all [] = []
stated_all (e ∷ es) = e.stated ∷ stated_all es

-- THE FACT: every example is as the specification states it
pub all_hold : computed_all examples ≡ stated_all examples
unfolding solve_dense Rattle.elimination.specs.Elimination.pivot Rattle.elimination.specs.Elimination.swap_rows Rattle.elimination.specs.Elimination.swap_right Rattle.elimination.specs.Elimination.divided Rattle.elimination.specs.Elimination.divide_row Rattle.elimination.specs.Elimination.divide_right Rattle.elimination.specs.Elimination.less Rattle.elimination.specs.Elimination.eliminate Rattle.elimination.specs.Elimination.eliminate_right Rattle.elimination.specs.Elimination.reduce Rattle.normal_equations.specs.Tab.tab Rattle.common.specs.Iter.iter Quats.norm3 Quats.exp_at Quats.log_at Quats.log_so3 Tensors.is_spd Tensors.scaled_adjugate Tensors.inverse_by Tensors.invert_spd acos_of Rattle.angles.specs.Arcs.in_unit Rattle.angles.specs.Arcs.arc_term Rattle.angles.specs.Arcs.arc_sum Rattle.angles.specs.Arcs.arc_of Rattle.float.specs.Ops.abs Rattle.float.specs.Ops.max Rattle.float.specs.Ops.clamp Rattle.float.specs.Sqrt.sqrt Rattle.float.specs.Sqrt.root_units Rattle.wide.specs.Isqrt.isqrt Rattle.wide.specs.Isqrt.digits switch_times Rattle.profile.specs.Profiles.coasting Rattle.profile.specs.Profiles.limited lib.Ieee.of_bits lib.Ieee.of_int lib.Ieee.add lib.Ieee.sub lib.Ieee.mul lib.Ieee.div lib.Ieee.neg lib.Ieee.lt lib.Ieee.le lib.Ieee.eq lib.Ieee.round lib.Ieee.units lib.Ieee.sum lib.Ieee.size lib.Ieee.odd
all_hold = refl
