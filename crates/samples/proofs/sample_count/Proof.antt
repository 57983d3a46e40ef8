-- `samples::sample_count` meets its contract: four cases, a law for each; where `whole_above` is called the steps are in its range (`steps_most`).
use Rattle.std.proofs.Common.{refl, arith, rules}
use Rattle.samples.specs.CountLaws.{many_requested, many_steps, as_requested, steps_most, steps_few, by_rate}
use Rattle.samples.proofs.sample_count.Statement.{statement}
use Rattle.samples.proofs.sample_count.Tie as tie

returns : tie.Need-returns-then-least-gt-MAX_SAMPLES
returns c = many_requested _ _ _ refl c.larger-least.ensures c.if-least-gt-MAX_SAMPLES.true

returns_2 : tie.Need-returns-then-steps
returns_2 c = many_steps _ _ _ c.spacing.ensures c.larger-least.ensures c.if-steps.true

whole-above-requires : tie.Need-whole_above-requires
whole-above-requires c κs =
    steps_most _ _ _ c.spacing.ensures c.larger-least.ensures c.if-least-gt-MAX_SAMPLES.false c.whole.ensures c.if-steps-whole.true c.if-steps.false

add-t11 : tie.Need-overflow_add-result
add-t11 c =
    omega (arith, steps_few _ _ _ c.spacing.ensures c.larger-least.ensures c.if-least-gt-MAX_SAMPLES.false c.whole.ensures c.if-steps-whole.true c.if-steps.false, c.whole_above.ensures)

returns_3 : tie.Need-returns-then-steps-whole
returns_3 c =
    by_rate _ _ _ c.spacing.ensures c.larger-least.ensures c.if-least-gt-MAX_SAMPLES.false c.whole.ensures c.if-steps-whole.true c.if-steps.false c.whole_above.ensures

returns-4 : tie.Need-returns-else-steps-whole
returns-4 c =
    as_requested _ _ _ c.spacing.ensures c.larger-least.ensures c.if-least-gt-MAX_SAMPLES.false c.whole.ensures c.if-steps-whole.false

pub sample_count_spec : {M : Type 1} → statement M
sample_count_spec =
    tie.close
    (tie.spec
    (λ c κs. search rules)
    returns
    (λ c κs. search rules)
    returns_2
    (λ c. search rules)
    (λ c κs. search rules)
    whole-above-requires
    add-t11
    returns_3
    returns-4)
