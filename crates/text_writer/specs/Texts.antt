-- What is printed, byte for byte. Definitions only.
use Rattle.std.specs.Prelude.{ℕ, zero, suc, ◌+◌, ◌*◌, ◌/◌, ◌%◌, cond, ◌&&◌, List, [], ◌∷◌, ◌++◌, ltb, leb, ℤ, pos, negsuc, get_or, Float}
use Rattle.std.specs.Float.{binary64}
use Rattle.std.specs.Float.Ieee.{to_bits}
use Rattle.common.specs.Lists.{at}
use Rattle.geom.specs.declared.Quat.{Quat}
use Rattle.forward.specs.declared.Node.{Node}
use Rattle.forward.specs.Runs.{no_node}
use Rattle.text.specs.Bytes.{bytes}
use Rattle.text.specs.Hex.{hex_text}

-- the texts f 0, f 1, .. f (n - 1), one after another
unfoldable pub times : (ℕ → List ℕ) → ℕ → List ℕ
times f zero = []
times f (suc k) = times f k ++ f k

-- a count in decimal, in at most so many places; a number of 64 bits has at most 20
unfoldable pub digits : ℕ → ℕ → List ℕ
digits zero n = []
digits (suc places) n = cond (ltb n 10) ((48 + n) ∷ []) (digits places (n / 10) ++ (48 + n % 10) ∷ [])

-- a whole number in decimal, a minus before it where it is below 0
abbrev pub whole : ℤ → List ℕ
whole (pos n) = digits 20 n
whole (negsuc n) = bytes "-" ++ digits 20 (suc n)

-- the bits of a float; those of the NaN are 7FF8 and twelve zeros
abbrev pub bits : Float → ℕ
bits x = to_bits binary64 x

-- a blank and a float
abbrev pub word : Float → List ℕ
word x = (32 ∷ []) ++ hex_text 16 (bits x)

-- n floats of a list, from one of them on
unfoldable pub words : List Float → ℕ → ℕ → List ℕ
words v from n = times (λ k. word (at v (from + k))) n

-- ---- forms: each begins with the line feed that ends the line before it

unfoldable pub counted : List ℕ → ℕ → List ℕ
counted head n = head ++ digits 20 n ++ bytes ")"

-- row k of a decision's c controls, which stand after its duration
unfoldable pub row : List Float → ℕ → ℕ → List ℕ
row z c k = bytes "\n (row" ++ words z (1 + k * c) c ++ bytes ")"

unfoldable pub rows : List Float → ℕ → List ℕ
rows z c = times (row z c) 16

unfoldable pub duration : Float → List ℕ
duration x = bytes "\n (duration" ++ word x ++ bytes ")"

-- time, attitude, rate, torque, body momentum
abbrev pub state : Float → Quat → List Float → List Float → List Float → List Float
state t q w tau h = t ∷ q.w ∷ q.x ∷ q.y ∷ q.z ∷ at w 0 ∷ at w 1 ∷ at w 2 ∷ at tau 0 ∷ at tau 1 ∷ at tau 2 ∷ at h 0 ∷ at h 1 ∷ at h 2 ∷ []

-- a node's state and the momenta of its wheels
unfoldable pub node_line : List Float → List Float → ℕ → List ℕ
node_line v hw wheels = bytes "\n (node" ++ words v 0 14 ++ words hw 0 wheels ++ bytes ")"

abbrev pub node : Node → ℕ → List ℕ
node n wheels = node_line (state n.t n.q n.w n.tau n.h) n.hw wheels

unfoldable pub nodes : List Node → ℕ → List ℕ
nodes ns wheels = times (λ k. node (get_or ns k no_node) wheels) 17

-- ---- answers

unfoldable pub refused : ℕ → ℕ → ℕ → List ℕ
refused number place runs =
    bytes "(refused"
    ++ counted (bytes "\n (number ") number
    ++ counted (bytes "\n (place ") place
    ++ counted (bytes "\n (runs ") runs
    ++ bytes ")\n"

unfoldable pub heading : ℕ → ℕ → Float → List ℕ
heading runs iterations x = bytes "(path" ++ counted (bytes "\n (runs ") runs ++ counted (bytes "\n (iterations ") iterations ++ duration x

-- a path of decision z: its duration stands first, then 16 rows
unfoldable pub path_text : ℕ → ℕ → ℕ → ℕ → List Float → List Node → List ℕ
path_text runs iterations controls wheels z ns = heading runs iterations (at z 0) ++ rows z controls ++ nodes ns wheels ++ bytes ")\n"

-- no path has rows of more than 12 controls, or more than 8 wheels: nothing is printed for such counts
unfoldable pub path : ℕ → ℕ → ℕ → ℕ → List Float → List Node → List ℕ
path runs iterations controls wheels z ns = cond (leb controls 12 && leb wheels 8) (path_text runs iterations controls wheels z ns) []

-- a dense sample's line
unfoldable pub sample : Float → Quat → List Float → List Float → List Float → List ℕ
sample t q w tau h = bytes " (sample" ++ words (state t q w tau h) 0 14 ++ bytes ")\n"
