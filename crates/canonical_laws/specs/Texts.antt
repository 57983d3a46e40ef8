-- Which texts are accepted, the problem of a text, its canonical text. Definitions only.
use Rattle.std.specs.Prelude.{ℕ, ◌≤◌, ◌≡◌, List}
use Rattle.problem.specs.declared.Problem.{Problem}
use Rattle.text.specs.Forms.{Form, loose}
use Rattle.problem_text.specs.declared.Read.{Read}
use Rattle.problem_text.specs.Reader.{read_in}
use Rattle.canonical_laws.specs.Pieces.{print}
use Rattle.common.specs.Refusals.{going}

-- at most 8 wheels and 12 thrusters: not refused with 1
abbrev pub Few : Problem → Type 0
Few p = (p.actuators.wheel_count ≤ 8) × (p.actuators.thruster_count ≤ 12)

-- and one momentum a wheel: a problem that a text can hold
abbrev pub Writable : Problem → Type 0
Writable p = Few p × (p.momenta.count ≡ p.actuators.wheel_count)

-- neither 21 nor 1; the reader's texts are those accepted in the form `loose`
abbrev pub Accepted : Form → List ℕ → Type 0
Accepted f t = ((read_in f t).fate ≡ going) × Few (read_in f t).problem

abbrev pub problem : Form → List ℕ → Problem
problem f t = (read_in f t).problem

-- the canonical text of an accepted text
abbrev pub canonical : List ℕ → List ℕ
canonical t = print (problem loose t)

-- what reading gives where nothing is wrong
abbrev pub answer : Problem → Read
answer p = record { fate = going; problem = p }
