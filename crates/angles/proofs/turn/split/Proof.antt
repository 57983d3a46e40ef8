-- `angles::turn::split` meets its contract: by the exponent the digits are cut (`cut_down`), shifted (`cut_up`), or shifted and doubled (`in_steps`).
use Rattle.std.proofs.Common.{ℕ, ◌-◌, ◌*◌, ◌/◌, ◌^◌, ◌≤◌, T, sym, ap, ◌∙◌, subst, mul-one, arith, lit≤, rules}
use lib.Ieee.{Float, binary64, fits, to_bits}
use Rattle.angles.proofs.Bits.{is_no_nan, field_low, field_high, cut_down, cut_up, no_loss, in_steps}
use Rattle.angles.proofs.turn.split.Statement.{statement}
use Rattle.angles.proofs.turn.split.Tie as tie

abbrev x : tie.Start → Float
x c = c.args.a

held : (c : tie.Start) → T (fits binary64 (x c))
held c = subst T (sym c.well_formed.0.1) tt

float-to-bits-bits : tie.Need-float_to_bits-bits
float-to-bits-bits c =
    let s = c in
    is_no_nan (x s) (held s) s.requires.0 s.requires.1

shr-divided : tie.Need-overflow_shr-digits
shr-divided c =
    let s = c.before in
    omega (arith, field_low (x s) (held s) s.requires.0 s.requires.1)

returns : tie.Need-returns-then-e-le1015
returns c =
    let s = c.before.before in
    (cut_down (x s) (held s) s.requires.0 s.requires.1 c.if-e-le1015.true ∙ sym (mul-one _) ∙ c.divided.ensures.0, c.divided.ensures.1, c.divided.ensures.2)

returns_2 : tie.Need-returns-then-s-le10
returns_2 c =
    let s = c.before.before.before in
    (cut_up (x s) (held s) s.requires.0 s.requires.1 c.if-e-le1015.false ∙ sym (no_loss (x s) (held s) s.requires.0 s.requires.1 _ c.if-s-le10.true) ∙ sym (mul-one _) ∙ c.divided-then-s-le10.ensures.0, c.divided-then-s-le10.ensures.1, c.divided-then-s-le10.ensures.2)

divided-requires-3 : tie.Need-divided-requires-2
divided-requires-3 c κs =
    let s = c.before.before in
    omega (arith, field_high (x s) (held s) s.requires.0 s.requires.1)

returns_3 : tie.Need-returns
returns_3 c =
    let s = c.before.before.before in
    (cut_up (x s) (held s) s.requires.0 s.requires.1 c.if-e-le1015.false ∙ in_steps (x s) (held s) s.requires.0 s.requires.1 c.if-s-le10.false ∙ ap (λ (n : ℕ). n * 2 ^ (to_bits binary64 (x s) / 2 ^ 52 - 1015 - 10)) (sym (no_loss (x s) (held s) s.requires.0 s.requires.1 10 (lit≤ tt))) ∙ c.divided-2.ensures.0, c.divided-2.ensures.1, c.divided-2.ensures.2)

pub split_spec : {M : Type 1} → statement M
split_spec =
    tie.close
    (tie.spec
    float-to-bits-bits
    shr-divided
    (λ c κs. search rules)
    returns
    (λ c. search rules)
    (λ c. search rules)
    (λ c κs. search rules)
    returns_2
    (λ c. search rules)
    divided-requires-3
    returns_3)
