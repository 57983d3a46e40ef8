-- `shared_runs::goes` meets its contract: the two cases of a fate.
use Prim.Native.Nat.{ℕ}
use mathlib.Core.Path.{◌≡◌}
use native.Mathlib.Omega.{arith}
use borrow.Author.Rules.{rules}
use Rattle.shared_runs.proofs.goes.Statement.{statement}
use Rattle.shared_runs.proofs.goes.Tie as tie

returns : tie.Need-returns-in-Ok
returns c = λ h. (c.in-Ok.is, h)

returns_2 : tie.Need-returns-in-Err
returns_2 c = λ h. let z : ◌≡◌ {A = ℕ} 0 1 = cc in absurd (omega arith)

pub goes_spec : {M : Type 1} → statement M
goes_spec =
    tie.close
    (tie.spec
    (λ c. search rules)
    (λ c. search rules)
    returns
    returns_2)
