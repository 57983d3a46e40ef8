-- A part put back keeps the list's length. Assumes nothing.
use Rattle.std.specs.Prelude.{ℕ, ◌-◌, ◌≤◌, ◌≡◌, List, ◌++◌, length, take, drop, Float}
use Rattle.std.proofs.Common.{arith, length-append, length-drop, length-take-le}
use Rattle.common.specs.Lists.{slice, pasted}

pub length_pasted : (z u : List Float) (a e : ℕ) → a ≤ e → e ≤ length z → length u ≡ length (slice a e z) → length (pasted z a e u) ≡ length z
length_pasted z u a e h k g =
    omega (
      arith,
      length-append (take a z) (u ++ drop (e - a) (drop a z)),
      length-append u (drop (e - a) (drop a z)),
      length-take-le a z (omega arith),
      length-drop (e - a) (drop a z),
      length-drop a z,
      length-take-le (e - a) (drop a z) (omega (arith, length-drop a z)),
    )
