use Rattle.std.proofs.Common.{◌≡◌, zero-le, rules, tests}
use Rattle.std.proofs.lemmas.Iterator.{IsFirst-from_position, YieldsList-from_slice}
use Rattle.std.proofs.option.Match.{if_some, if_none}
use Rattle.text.proofs.Rows.{past_found, past_all}
use Rattle.text.proofs.hex.past_blanks.Goals as goal

pub returns-in-Some : goal.returns-in-Some
returns-in-Some c =
    let first = if_some _ _ _ c.in-Some.is (IsFirst-from_position _ _ _ (λ b. b ≡ 32 → ⊥) (λ b. b ≡ 32) c.position.ensures.ran (YieldsList-from_slice _ c.iter.ensures.rest) (λ x q k. search (rules, tests)) (λ x q k. search (rules, tests))) in
    past_found c.args.s.now c.args.at c.in-Some.blanks first.0 (λ k h. first.2 k 0 zero-le h) (first.1 0)

pub returns-in-None : goal.returns-in-None
returns-in-None c =
    let all = if_none _ _ c.in-None.is (IsFirst-from_position _ _ _ (λ b. b ≡ 32 → ⊥) (λ b. b ≡ 32) c.position.ensures.ran (YieldsList-from_slice _ c.iter.ensures.rest) (λ x q k. search (rules, tests)) (λ x q k. search (rules, tests))) in
    past_all c.args.s.now c.args.at c.requires (λ k h. all k 0 zero-le h)
