-- How the solver is used: an equation with a constant, one with differences, one with a hypothesis. Assumes nothing.
use Rattle.std.specs.Prelude.{◌≡◌, refl, [], ◌∷◌, ℤ, pos, ◌+ℤ◌, ◌-ℤ◌, ◌*ℤ◌}
use Rattle.std.proofs.Common.{ap, ◌∙◌}
use Rattle.rings.specs.Ring.{var, con, ◌⊕◌, ◌⊖◌, ◌⊗◌}
use Rattle.rings.specs.Integers.{ringℤ}

square_of_sum : (a b : ℤ) → (a +ℤ b) *ℤ (a +ℤ b) ≡ a *ℤ a +ℤ pos 2 *ℤ a *ℤ b +ℤ b *ℤ b
square_of_sum a b =
    let x = var 0 in
    let y = var 1 in
    ringℤ (a ∷ b ∷ []) ((x ⊕ y) ⊗ (x ⊕ y)) (x ⊗ x ⊕ con (pos 2) ⊗ x ⊗ y ⊕ y ⊗ y) refl

difference_of_squares : (a b : ℤ) → (a -ℤ b) *ℤ (a +ℤ b) ≡ a *ℤ a -ℤ b *ℤ b
difference_of_squares a b = ringℤ (a ∷ b ∷ []) ((var 0 ⊖ var 1) ⊗ (var 0 ⊕ var 1)) (var 0 ⊗ var 0 ⊖ var 1 ⊗ var 1) refl

-- a hypothesis is put in by `ap` beside the solver
with_hypothesis : (a b c : ℤ) → a *ℤ a ≡ b → (a +ℤ c) *ℤ a ≡ b +ℤ a *ℤ c
with_hypothesis a b c h = ringℤ (a ∷ c ∷ []) ((var 0 ⊕ var 1) ⊗ var 0) (var 0 ⊗ var 0 ⊕ var 0 ⊗ var 1) refl ∙ ap (λ x. x +ℤ a *ℤ c) h
