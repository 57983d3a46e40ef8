-- The canonical text as the writer puts it, part by part. Definitions only.
use Rattle.std.specs.Prelude.{ℕ, ◌+◌, ◌*◌, cond, ◌&&◌, List, [], ◌∷◌, ◌++◌, leb, eqb, length, get_or, Float, Option, Some, None}
use Rattle.geom.specs.declared.Quat.{Quat}
use Rattle.actuators.specs.declared.Wheel.{Wheel}
use Rattle.actuators.specs.declared.Thruster.{Thruster}
use Rattle.problem.specs.declared.Weights.{Weights}
use Rattle.problem.specs.declared.Problem.{Problem}
use Rattle.text.specs.Bytes.{bytes}
use Rattle.text_writer.specs.Puts.{Puts}
use Rattle.text_writer.specs.Texts.{times}
use Rattle.canonical_laws.specs.Pieces.{Piece, lit, Entry, wheel, thruster, pyramid, flat, floats, limit, line, quat, weights, entry, no_wheel, no_thruster, actuators, print}
use Rattle.actuators.specs.declared.CmgPyramid.{CmgPyramid}

-- the text of a problem; none of one with more than 8 wheels or 12 thrusters, or with another count of momenta than of wheels, which no accepted text gives
unfoldable pub written : Problem → List ℕ
written p =
    cond (leb p.actuators.wheel_count 8 && (leb p.actuators.thruster_count 12 && eqb p.momenta.count p.actuators.wheel_count)) (print p) []

abbrev pub close : List ℕ
close = bytes ")\n"

-- the bytes of a line of n floats, at most
abbrev pub room : List ℕ → ℕ → List ℕ → ℕ
room head n tail = length head + 17 * n + length tail

-- a line of n floats is put into a buffer
abbrev pub PutsLine : List ℕ → ℕ → List ℕ → ℕ → List Float → List ℕ → List ℕ → ℕ → Type 0
PutsLine before at head n v tail = Puts before at (flat (line head v tail)) (room head n tail)

-- an actuator, with the line feed that ends the line before it
abbrev pub entry_text : Entry → List ℕ
entry_text e = flat (lit (bytes "\n") ∷ entry e)

abbrev pub gyros_text : Option CmgPyramid → List ℕ
gyros_text None = []
gyros_text (Some p) = entry_text (pyramid p)

unfoldable pub wheels_text : List Wheel → ℕ → List ℕ
wheels_text ws n = times (λ k. entry_text (wheel (get_or ws k no_wheel))) n

unfoldable pub thrusters_text : List Thruster → ℕ → List ℕ
thrusters_text ts n = times (λ k. entry_text (thruster (get_or ts k no_thruster))) n

abbrev pub weights_line : Weights → List Piece
weights_line w = line (bytes " (weights") (weights w) close

abbrev pub slew_line : Option Float → List Piece
slew_line l = lit (bytes " (slew") ∷ limit l ∷ lit close ∷ []

abbrev pub inertia_line : List Float → List Piece
inertia_line j = line (bytes " (inertia") (floats 9 j) close

abbrev pub torques_line : List Float → List Piece
torques_line l = line (bytes " (limit") (floats 3 l) close

abbrev pub tolerances_line : Float → Float → List Piece
tolerances_line norm tie = line (bytes " (tolerance") (norm ∷ tie ∷ []) close

abbrev pub momenta_line : List Float → ℕ → List Piece
momenta_line v n = line (bytes " (momenta") (floats n v) close

abbrev pub attitudes : Quat → Quat → List Piece
attitudes q0 qf = line (bytes "(problem") [] (bytes "\n") ++ line (bytes " (q0") (quat q0) close ++ line (bytes " (qf") (quat qf) close

abbrev pub body : List Float → List Float → Option Float → List Piece
body j l slew = inertia_line j ++ torques_line l ++ slew_line slew

-- the first eight lines
unfoldable pub fields : Problem → List Piece
fields p = attitudes p.q0 p.qf ++ body p.inertia p.torque_limit p.slew ++ weights_line p.weights ++ tolerances_line p.norm_tolerance p.tie_tolerance
