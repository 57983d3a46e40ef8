use borrow.Author.Rules.{rules}
use Rattle.std.proofs.Common.{ℕ, ◌≡◌, ◌∙◌, sym, arith, below_more}
use Rattle.common.specs.Lists.{at}
use Rattle.float_bits.specs.BitLaws.{same_is}
use Rattle.shared_runs.proofs.same_front.Goals as goal

pub loop-i-init : goal.loop-i-init
loop-i-init c = λ i h. absurd (omega arith)

pub returns-then-not-same_bits : goal.returns-then-not-same_bits
returns-then-not-same_bits c = λ h. let z : ◌≡◌ {A = ℕ} 0 1 = cc in absurd (omega arith)

pub loop-i-preserved : goal.loop-i-preserved
loop-i-preserved c =
    let l = c.loop-i in
    let a = c.args in
    below_more (λ k. at a.y.now k ≡ at a.z.now k) l.i l.invariant (same_is _ _ (sym c.same_bits.ensures ∙ c.if-not-same_bits.false))

pub returns : goal.returns
returns c =
    λ h. let l = c.loop-i in let e : l.i ≡ c.args.e = search rules in rw e at l.invariant
