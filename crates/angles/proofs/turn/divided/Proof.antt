-- `angles::turn::divided` meets its contract: the loop keeps that x * 2^i is k quarters and r, with r below a quarter.
use Rattle.std.proofs.Common.{◌≡◌, ℕ, ◌+◌, ◌-◌, ◌*◌, ◌^◌, ◌<◌, ◌≤◌, sym, ap, ◌∙◌, ⊎_elim, mod-lt, div-add-mod', mul-one, arith, lit<}
use Rattle.angles.specs.Angles.{Q}
use Rattle.angles.proofs.Division.{few_quarters, doubled}
use Rattle.angles.proofs.turn.divided.Statement.{statement}
use Rattle.angles.proofs.turn.divided.Tie as tie
use Rattle.angles.proofs.turn.divided.Lts.{then-r-ge-QUARTER, else-r-ge-QUARTER}

abbrev invariant_loop : tie.invariant-loop-i
invariant_loop x n k₀ r₀ i₀ k r i = (x * 2 ^ i ≡ k * Q + r) × (r < Q) × (i ≤ n) × (k < 4096)

abbrev decreases_loop : tie.decreases-loop-i
decreases_loop x n k₀ r₀ i₀ k r i = n - i

loop-holds : tie.Need-loop-i-init invariant_loop decreases_loop
loop-holds c = (mul-one c.args.x ∙ sym (div-add-mod' c.args.x Q), mod-lt c.args.x (lit< tt), omega arith, omega arith)

mul-k : tie.Need-overflow_mul-k invariant_loop decreases_loop
mul-k c = omega arith

mul_r : tie.Need-overflow_mul-r invariant_loop decreases_loop
mul_r c = omega arith

add-k : tie.Need-overflow_add-k invariant_loop decreases_loop
add-k c = omega arith

add-i : tie.Need-overflow_add-i invariant_loop decreases_loop
add-i c = omega arith

loop-less : tie.Need-loop-i-smaller invariant_loop decreases_loop
loop-less c = omega arith

loop-again : tie.Need-loop-i-preserved invariant_loop decreases_loop
loop-again c =
    let a = c.args in
    let i = c.loop-i.i in
    let d : a.x * 2 ^ (i + 1) ≡ a.x * 2 ^ i * 2 = doubled a.x i in
    let e : a.x * 2 ^ (i + 1) ≡ c.if-r-ge-QUARTER.k * Q + c.if-r-ge-QUARTER.r = (elim c.if-r-ge-QUARTER.branch [ then-r-ge-QUARTER w ↦ omega arith | else-r-ge-QUARTER w ↦ omega arith ]) in
    (e, (elim c.if-r-ge-QUARTER.branch [ then-r-ge-QUARTER w ↦ omega arith | else-r-ge-QUARTER w ↦ omega arith ]), omega arith, few_quarters a.x (i + 1) c.if-r-ge-QUARTER.k c.if-r-ge-QUARTER.r c.ranges.x.fits (omega arith) e)

returns : tie.Need-returns invariant_loop decreases_loop
returns c =
    let n = c.args.n in
    let e : n ≡ c.loop-i.i = omega arith in
    (ap (λ (j : ℕ). c.args.x * 2 ^ j) e ∙ c.loop-i.invariant.0, omega arith, omega arith)

pub divided_spec : {M : Type 1} → statement M
divided_spec =
    tie.close
    (tie.spec invariant_loop decreases_loop loop-holds mul-k mul_r add-k add-i loop-less loop-again returns)
