-- What a problem's text consists of, piece by piece, and the canonical text. Definitions only.
use Rattle.std.specs.Prelude.{ℕ, zero, suc, List, [], ◌∷◌, ◌++◌, map, length, get_or, replicate, Float, Option, Some, None}
use Rattle.std.proofs.lemmas.List.Edits.{sets}
use Rattle.std.specs.Float.{nan, binary64}
use Rattle.std.specs.Float.Ieee.{of_bits}
use Rattle.geom.specs.declared.Quat.{Quat}
use Rattle.actuators.specs.declared.Wheel.{Wheel}
use Rattle.actuators.specs.declared.Thruster.{Thruster}
use Rattle.actuators.specs.declared.CmgPyramid.{CmgPyramid}
use Rattle.actuators.specs.declared.Actuators.{Actuators}
use Rattle.actuators.specs.Maps.{blank_wheel, blank_thruster}
use Rattle.problem.specs.declared.Weights.{Weights}
use Rattle.problem.specs.declared.Momenta.{Momenta}
use Rattle.problem.specs.declared.Problem.{Problem}
use Rattle.text.specs.Bytes.{bytes}
use Rattle.text.specs.Hex.{real_text}

-- bytes as they stand, a float, or the word `none`; the last two each after a blank
pub data Piece : Type 0 where
  lit : List ℕ → Piece
  num : Float → Piece
  non : Piece

-- ---- the canonical text of pieces
abbrev pub text : Piece → List ℕ
text (lit w) = w
text (num x) = 32 ∷ real_text x
text non = bytes " none"

abbrev pub flat : List Piece → List ℕ
flat [] = []
flat (p ∷ ps) = text p ++ flat ps

-- ---- the pieces of a problem

-- n elements from k on, with d past the end
abbrev pub firsts : {A : Type 0} → A → ℕ → ℕ → List A → List A
firsts d k zero v = []
firsts d k (suc n) v = get_or v k d ∷ firsts d (suc k) n v

abbrev pub floats : ℕ → List Float → List Float
floats n v = firsts nan 0 n v

-- floats, and what follows them
abbrev pub nums : List Float → List Piece → List Piece
nums [] rest = rest
nums (x ∷ xs) rest = num x ∷ nums xs rest

abbrev pub limit : Option Float → Piece
limit None = non
limit (Some x) = num x

abbrev pub line : List ℕ → List Float → List ℕ → List Piece
line head xs tail = lit head ∷ nums xs (lit tail ∷ [])

abbrev pub quat : Quat → List Float
quat q = q.w ∷ q.x ∷ q.y ∷ q.z ∷ []

abbrev pub weights : Weights → List Float
weights w = w.time ∷ w.control ∷ w.energy ∷ w.pointing ∷ w.smoothness ∷ w.momentum ∷ []

-- an actuator, up to its bracket
pub data Entry : Type 0 where
  wheel : Wheel → Entry
  thruster : Thruster → Entry
  pyramid : CmgPyramid → Entry

abbrev pub entry : Entry → List Piece
entry (wheel w) = lit (bytes "  (wheel") ∷ nums (floats 3 w.axis) (num w.max_torque_nm ∷ num w.max_momentum_nms ∷ limit w.max_power_w ∷ lit (bytes ")") ∷ [])
entry (thruster t) = lit (bytes "  (thruster") ∷ nums (floats 3 t.torque_axis) (num t.max_torque_nm ∷ lit (bytes ")") ∷ [])
entry (pyramid p) = line (bytes "  (cmg") (p.skew_rad ∷ p.wheel_momentum_nms ∷ p.max_gimbal_rate_rad_s ∷ p.singularity_eps ∷ []) (bytes ")")

-- each on a line of its own, after the line feed that ends the line before it
abbrev pub entries : List Entry → List Piece → List Piece
entries [] rest = rest
entries (e ∷ es) rest = lit (bytes "\n") ∷ (entry e ++ entries es rest)

abbrev pub gyros : Option CmgPyramid → List Entry
gyros None = []
gyros (Some p) = pyramid p ∷ []

-- what stands past the end of a list, which nothing depends on
abbrev pub no_wheel : Wheel
no_wheel = record { axis = []; max_torque_nm = nan; max_momentum_nms = nan; max_power_w = None }

abbrev pub no_thruster : Thruster
no_thruster = record { torque_axis = []; max_torque_nm = nan }

-- the actuators that count
abbrev pub wheels_of : Actuators → List Wheel
wheels_of a = firsts no_wheel 0 a.wheel_count a.wheels

abbrev pub thrusters_of : Actuators → List Thruster
thrusters_of a = firsts no_thruster 0 a.thruster_count a.thrusters

-- the momenta that count
abbrev pub momenta_of : Momenta → List Float
momenta_of m = floats m.count m.at

abbrev pub listed : List Wheel → List Thruster → Option CmgPyramid → List Entry
listed ws ts c = map wheel ws ++ (map thruster ts ++ gyros c)

unfoldable pub actuators : Actuators → List Piece
actuators a = lit (bytes " (actuators") ∷ entries (listed (wheels_of a) (thrusters_of a) a.cmgs) (lit (bytes "))\n") ∷ [])

unfoldable pub pieces : Problem → List Piece
pieces p =
    line (bytes "(problem") [] (bytes "\n")
    ++ line (bytes " (q0") (quat p.q0) (bytes ")\n")
    ++ line (bytes " (qf") (quat p.qf) (bytes ")\n")
    ++ line (bytes " (inertia") (floats 9 p.inertia) (bytes ")\n")
    ++ line (bytes " (limit") (floats 3 p.torque_limit) (bytes ")\n")
    ++ (lit (bytes " (slew") ∷ limit p.slew ∷ lit (bytes ")\n") ∷ [])
    ++ line (bytes " (weights") (weights p.weights) (bytes ")\n")
    ++ line (bytes " (tolerance") (p.norm_tolerance ∷ p.tie_tolerance ∷ []) (bytes ")\n")
    ++ (lit (bytes " (momenta") ∷ nums (momenta_of p.momenta) (lit (bytes ")\n") ∷ actuators p.actuators))

-- the canonical text
unfoldable pub print : Problem → List ℕ
print p = flat (pieces p)

-- ---- a problem with nothing past its counts

abbrev pub tidy_wheel : Wheel → Wheel
tidy_wheel w = record { axis = floats 3 w.axis; max_torque_nm = w.max_torque_nm; max_momentum_nms = w.max_momentum_nms; max_power_w = w.max_power_w }

abbrev pub tidy_thruster : Thruster → Thruster
tidy_thruster t = record { torque_axis = floats 3 t.torque_axis; max_torque_nm = t.max_torque_nm }

-- these actuators from the front, blank ones after them
abbrev pub packed : List Wheel → List Thruster → Option CmgPyramid → Actuators
packed ws ts c = record {
  wheels = sets (replicate 8 blank_wheel) 0 (map tidy_wheel ws);
  wheel_count = length ws;
  thrusters = sets (replicate 12 blank_thruster) 0 (map tidy_thruster ts);
  thruster_count = length ts;
  cmgs = c;
}

-- these momenta from the front, +0 after them
abbrev pub tidy_momenta : Momenta → Momenta
tidy_momenta m = record { count = m.count; at = sets (replicate 8 (of_bits binary64 0)) 0 (momenta_of m) }

unfoldable pub tidied : Problem → Problem
tidied p = record {
  q0 = p.q0;
  qf = p.qf;
  inertia = floats 9 p.inertia;
  torque_limit = floats 3 p.torque_limit;
  slew = p.slew;
  weights = p.weights;
  norm_tolerance = p.norm_tolerance;
  tie_tolerance = p.tie_tolerance;
  actuators = packed (wheels_of p.actuators) (thrusters_of p.actuators) p.actuators.cmgs;
  momenta = tidy_momenta p.momenta;
}
