-- `shared_runs::shares` meets its contract: a run that is kept and numbers that agree are the two things that sharing asks for.
use Prim.Native.Nat.{ℕ, ◌*◌, ◌≤◌}
use mathlib.Core.Path.{◌≡◌, sym, ◌∙◌}
use native.Mathlib.Nat.{mul-le-mul}
use native.Mathlib.Omega.{arith}
use lib.ListN.{length}
use borrow.Author.Tests.{not-false}
use borrow.Author.Rules.{rules}
use Rattle.shared_runs.proofs.shares.Statement.{statement}
use Rattle.shared_runs.proofs.shares.Tie as tie

returns : tie.Need-returns-then-not-on
returns c = λ h. let z : ◌≡◌ {A = ℕ} 0 1 = cc in absurd (omega arith)

mul-same-front : tie.Need-overflow_mul-steps
mul-same-front c =
    omega (arith, mul-le-mul {m₁ = c.args.n} {m₂ = 12} (c.requires.0 c.if-not-on.false) c.requires.1)

add-same-front : tie.Need-overflow_add-steps
add-same-front c =
    omega (arith, mul-le-mul {m₁ = c.args.n} {m₂ = 12} (c.requires.0 c.if-not-on.false) c.requires.1)

same-front-requires : tie.Need-same_front-requires
same-front-requires c κs =
    let few = mul-le-mul {m₁ = c.args.n} {m₂ = 12} (c.requires.0 c.if-not-on.false) c.requires.1 in
    let y : length c.args.y.now ≡ 193 = search rules in
    let z : length c.args.z.now ≡ 193 = search rules in
    (omega (arith, few, y), omega (arith, few, z))

returns_2 : tie.Need-returns
returns_2 c = λ h.
    let y : length c.args.y.now ≡ 193 = search rules in
    let z : length c.args.z.now ≡ 193 = search rules in
    (c.if-not-on.false, record { long = y ∙ sym z; agree = c.same_front.ensures h })

pub shares_spec : {M : Type 1} → statement M
shares_spec =
    tie.close
    (tie.spec
    returns
    mul-same-front
    add-same-front
    same-front-requires
    returns_2)
