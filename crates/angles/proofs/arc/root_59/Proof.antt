-- `angles::arc::root_59` meets its contract: d * 2^59 in two words, and a root below that of 2^120.
use Rattle.std.proofs.Common.{◌≡◌, ℕ, ◌+◌, ◌*◌, ◌/◌, ◌%◌, ◌^◌, ◌≤◌, sym, ap, ◌∙◌, subst, arith, lit<, lit≤, rules}
use Rattle.wide.specs.Isqrt.{isqrt}
use Rattle.wide.specs.IsqrtLaws.{isqrt_root, root_le}
use Rattle.angles.proofs.arc.root_59.Statement.{statement}
use Rattle.angles.proofs.arc.root_59.Tie as tie

joined : (d : ℕ) → d / 2 ^ 5 * 2 ^ 64 + d % 32 * 0x800_0000_0000_0000 ≡ d * 2 ^ 59
joined d = omega arith

small : (d : ℕ) → d ≤ 2 ^ 60 → isqrt (d * 2 ^ 59) ≤ 2 ^ 60
small d h = root_le (d * 2 ^ 59) (2 ^ 60 * 2 ^ 60) (isqrt (d * 2 ^ 59)) (2 ^ 60) (isqrt_root (d * 2 ^ 59)) (record { low = lit≤ tt; high = lit< tt }) (omega arith)

returns : tie.Need-returns
returns c =
    let d = c.args.d in
    let e : c.isqrt.result ≡ isqrt (d * 2 ^ 59) = c.isqrt.ensures ∙ ap isqrt (joined d) in
    (e, subst (λ (r : ℕ). r ≤ 2 ^ 60) (sym e) (small d c.requires))

pub root_59_spec : {M : Type 1} → statement M
root_59_spec = tie.close (tie.spec (λ c. search rules) (λ c κs. search rules) returns)
