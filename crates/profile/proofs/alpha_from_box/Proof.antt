-- `profile::alpha_from_box` meets its contract: each step is its definition's. Assumes nothing.
use borrow.Author.Rules.{rules}
use lib.Ieee.{of_bits}
use Rattle.profile.proofs.alpha_from_box.Statement.{statement}
use Rattle.profile.proofs.alpha_from_box.Tie as tie

float-from-bits-box-turn : tie.Need-float_from_bits-box_turn
unfolding lib.Ieee.nan_bits
float-from-bits-box-turn c = search rules

returns : tie.Need-returns
unfolding of_bits
returns c =
    let apply-tensor = c.apply_tensor-jn in
    rw (c.acceleration_of.ensures, c.box_turn.ensures, c.box_turn-b.ensures, c.box_turn-a.ensures, apply-tensor.ensures)

pub alpha_from_box_spec : {M : Type 1} → statement M
alpha_from_box_spec =
    tie.close
    (tie.spec
    (λ c κs. search rules) float-from-bits-box-turn (λ c. search rules) (λ c. search rules) (λ c κs. search rules) (λ c. search rules)
    (λ c. search rules) (λ c κs. search rules) (λ c. search rules) (λ c. search rules) (λ c κs. search rules) (λ c κs. search rules) returns)
