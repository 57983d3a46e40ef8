-- Momenta, previews and starts as the numbers that a caller in C holds. Definitions only.
use Rattle.std.specs.Prelude.{ℕ, ◌≡◌, Bool, List, [], ◌∷◌, eqb, Float}
use Rattle.common.specs.Lists.{at}
use Rattle.geom.specs.Vec as Vec
use Rattle.problem.specs.declared.Momenta.{Momenta}
use Rattle.wheel_record.specs.Commits.{commit}
use Rattle.wheel_record.specs.declared.Started.{Started}
use Rattle.preview.specs.Previews.{preview, preview_from}
use Rattle.preview.specs.declared.Previewed.{Previewed}
use Rattle.export_leaves.specs.Outcomes.{fate_number, fate_place}
use Rattle.problem_numbers.specs.Declared.{problem}

abbrev pub momenta : ℕ → List Float → Momenta
momenta wheels v = record { count = wheels; at = v }

-- the wheel momenta of row 16, numbers 14 to 21
abbrev pub last : ℕ → List (List Float) → Momenta
last wheels nodes = record {
  count = wheels;
  at =
      at (Vec.row nodes 16) 14
      ∷ at (Vec.row nodes 16) 15
      ∷ at (Vec.row nodes 16) 16
      ∷ at (Vec.row nodes 16) 17
      ∷ at (Vec.row nodes 16) 18
      ∷ at (Vec.row nodes 16) 19
      ∷ at (Vec.row nodes 16) 20
      ∷ at (Vec.row nodes 16) 21
      ∷ [];
}

-- a preview from the momenta on record, with our own seed and with a caller's
abbrev pub own : List ℕ → List Float → List Float → Bool → ℕ → List Float → ℕ → Previewed
own c v b limited wheels onRecord size = preview (momenta wheels onRecord) (problem c v b limited) size

abbrev pub seeded : List ℕ → List Float → List Float → Bool → ℕ → List Float → Float → List Float → List Float → ℕ → Previewed
seeded c v b limited wheels onRecord duration rates torques size =
    preview_from (momenta wheels onRecord) (problem c v b limited) duration rates torques size

-- a start of the preview that answered the number `refusal`, 0 where it has a path
abbrev pub start : ℕ → List Float → ℕ → ℕ → List Float → ℕ → List (List Float) → Started
start wheels onRecord refusal beganWheels began pathWheels nodes =
    commit (momenta wheels onRecord) (eqb refusal 0) (momenta beganWheels began) (last pathWheels nodes)

-- what the start s tells: a refusal's number and place, or 0, and the momenta on record after it
pub record StartTold (s : Started) (n k wheels : ℕ) (onRecord : List Float) : Type 0 where
  pub number_is : n ≡ fate_number s.fate
  pub place_is : k ≡ fate_place s.fate
  pub wheels_are : wheels ≡ s.on_record.count
  pub momenta_are : onRecord ≡ s.on_record.at
