-- The canonical text is short. Assumes nothing.
use Rattle.std.specs.Prelude.{ℕ, zero, suc, ◌+◌, ◌*◌, ◌/◌, ◌%◌, ◌^◌, ◌≤◌, ◌≡◌, refl, Bool, true, false, cond, List, [], ◌∷◌, ◌++◌, map, eqb, length, Float, Option, Some, None}
use Rattle.std.proofs.Common.{arith, length-append}
use Rattle.std.proofs.lemmas.List.{length-map}
use Rattle.std.specs.Float.{nan, binary64}
use Rattle.std.specs.Float.Ieee.{to_bits}
use Rattle.actuators.specs.declared.Actuators.{Actuators}
use Rattle.problem.specs.declared.Problem.{Problem}
use Rattle.text.specs.Bytes.{bytes}
use Rattle.text.specs.Hex.{digit_byte, hex_text}
use Rattle.canonical_laws.specs.Pieces.{Piece, lit, num, non, Entry, wheel, thruster, pyramid, text, flat, nums, limit, entries, gyros, listed, no_wheel, no_thruster, wheels_of, thrusters_of, momenta_of, actuators, pieces, print}
use Rattle.canonical_laws.specs.Texts.{Writable}
use Rattle.canonical_laws.specs.LineLaws.{firsts_length}
use Rattle.actuators.specs.declared.CmgPyramid.{CmgPyramid}

-- ---- its length

pub hex_short : (k x : ℕ) → length (hex_text k x) ≤ k
unfolding hex_text
hex_short zero x = omega arith
hex_short (suc k) x = go (hex_short k (x % 16 ^ k)) (eqb (x % 16 ^ k) 0)
  where
    go : length (hex_text k (x % 16 ^ k)) ≤ k → (b : Bool) → length (digit_byte (x / 16 ^ k) ∷ cond b [] (hex_text k (x % 16 ^ k))) ≤ suc k
    go l true = omega arith
    go l false = omega arith

-- at most so many bytes
abbrev size : Piece → ℕ
size (lit w) = length w
size (num x) = 17
size non = 17

abbrev most : List Piece → ℕ
most [] = 0
most (p ∷ ps) = size p + most ps

size_limit : (l : Option Float) → size (limit l) ≡ 17
size_limit None = refl
size_limit (Some x) = refl

text_size : (p : Piece) → length (text p) ≤ size p
text_size (lit w) = omega arith
text_size (num x) = omega (arith, hex_short 16 (to_bits binary64 x))
text_size non = omega arith

flat_most : (ps : List Piece) → length (flat ps) ≤ most ps
flat_most [] = omega arith
flat_most (p ∷ ps) = omega (arith, length-append (text p) (flat ps), text_size p, flat_most ps)

most_entries : (es : List Entry) (rest : List Piece) → most (entries es rest) ≤ 112 * length es + most rest
most_entries [] rest = omega arith
most_entries (wheel w ∷ es) rest = omega (arith, size_limit w.max_power_w, most_entries es rest)
most_entries (thruster t ∷ es) rest = omega (arith, most_entries es rest)
most_entries (pyramid p ∷ es) rest = omega (arith, most_entries es rest)

gyros_few : (c : Option CmgPyramid) → length (gyros c) ≤ 1
gyros_few None = omega arith
gyros_few (Some p) = omega arith

actuators_most : (a : Actuators) → a.wheel_count ≤ 8 → a.thruster_count ≤ 12 → most (actuators a) ≤ 2400
unfolding actuators
actuators_most a few less =
    let ws = wheels_of a in
    let ts = thrusters_of a in
    let m = most_entries (listed ws ts a.cmgs) (lit (bytes "))\n") ∷ []) in
    let n : length (listed ws ts a.cmgs) ≤ 21 =
    omega (arith, length-append (map wheel ws) (map thruster ts ++ gyros a.cmgs), length-append (map thruster ts) (gyros a.cmgs), length-map ws wheel, length-map ts thruster, gyros_few a.cmgs, firsts_length no_wheel a.wheel_count 0 a.wheels, firsts_length no_thruster a.thruster_count 0 a.thrusters) in
    omega (arith, m, n)

most_nums : (xs : List Float) (rest : List Piece) → most (nums xs rest) ≡ 17 * length xs + most rest
most_nums [] rest = omega arith
most_nums (x ∷ xs) rest = omega (arith, most_nums xs rest)

pub print_short : (p : Problem) → Writable p → length (print p) ≤ 4096
unfolding print pieces
print_short p w =
    omega (
      arith,
      flat_most (pieces p),
      size_limit p.slew,
      most_nums (momenta_of p.momenta) (lit (bytes ")\n") ∷ actuators p.actuators),
      firsts_length nan p.momenta.count 0 p.momenta.at,
      w.0.0,
      w.1,
      actuators_most p.actuators w.0.0 w.0.1,
    )
