-- `angles::arc::arc_terms` meets its contract: at each turn the terms up to n are summed, and none of them is zero.
use Rattle.std.proofs.Common.{◌≡◌, ℕ, ◌+◌, ◌-◌, ◌*◌, ◌<◌, ◌≤◌, subst, mul-zero, arith}
use Rattle.angles.specs.SizesInner.{ArcAt, ArcFits}
use Rattle.angles.specs.Ended.{arc_part}
use Rattle.angles.specs.EndedInner.{ArcRun}
use Rattle.angles.proofs.ArcEnds.{run_kept, run_stops, run_goes, some_more}
use Rattle.angles.proofs.arc.arc_terms.Statement.{statement}
use Rattle.angles.proofs.arc.arc_terms.Tie as tie

abbrev invariant_loop : tie.invariant-loop-n
invariant_loop h from to a₀ n₀ a n =
    (n ≤ to) × ArcFits n a × (1 ≤ n) × ((s : ℕ) → ArcAt h s from a₀ → ((j : ℕ) → j < from → arc_part h s j ≡ 0 → ⊥) → ArcAt h s n a × ((j : ℕ) → j < n → arc_part h s j ≡ 0 → ⊥))

abbrev decreases_loop : tie.decreases-loop-n
decreases_loop h from to a₀ n₀ a n = to - n

returns : tie.Need-returns-then-start-ne0 invariant_loop decreases_loop
returns c =
    let b = c.before.before in
    (record { room = omega (arith, b.requires.3.room); small = omega (arith, mul-zero (2 * b.args.to + 1)) }, λ s r. run_kept b.args.h s b.requires.0 b.args.from b.args.to b.args.start b.requires.1 c.if-start-ne0.true r)

loop-holds : tie.Need-loop-n-init invariant_loop decreases_loop
loop-holds c = let b = c.before.before in (b.requires.1, b.requires.3, b.requires.4, λ s t f. (t, f))

mul-if2 : tie.Need-overflow_mul-n invariant_loop decreases_loop
mul-if2 c = omega arith

add-if2 : tie.Need-overflow_add-n invariant_loop decreases_loop
add-if2 c = omega arith

add-t11 : tie.Need-overflow_add-result invariant_loop decreases_loop
add-t11 c = omega arith

-- what the loop knows of s
known : (c : tie.At-loop-n invariant_loop decreases_loop) (s : ℕ) → ArcRun c.args.h s c.args.from c.args.start → ArcAt c.args.h s c.loop-n.n c.loop-n.a × ((j : ℕ) → j < c.loop-n.n → arc_part c.args.h s j ≡ 0 → ⊥)
known c s r = c.loop-n.invariant.3 s (record { summed = r.summed; next = r.next c.if-start-ne0.false }) (r.going c.if-start-ne0.false)

returns_2 : tie.Need-returns-then-a-n invariant_loop decreases_loop
returns_2 c =
    let l = c.before.before.before in
    let b = l.before.before.before in
    (record { room = omega (arith, l.loop-n.invariant.1.room); small = omega (arith, mul-zero (2 * b.args.to + 1)) }, λ s r. let k = known l s r in run_stops b.args.h s b.requires.0 l.loop-n.n b.args.to l.loop-n.a c.loop-n-test.true b.requires.2 c.if-a-n.true k.0 k.1)

arc-term-requires : tie.Need-arc_term-a-requires invariant_loop decreases_loop
arc-term-requires c κs = let l = c.before.before.before in let b = l.before.before.before in (b.requires.0, omega arith, l.loop-n.invariant.1, l.loop-n.invariant.2)

add-n : tie.Need-overflow_add-n-in-loop-n invariant_loop decreases_loop
add-n c = omega arith

loop-less : tie.Need-loop-n-smaller invariant_loop decreases_loop
loop-less c = omega arith

loop-again : tie.Need-loop-n-preserved invariant_loop decreases_loop
loop-again c =
    let e = c.before in
    let l = e.before.before.before in
    let b = l.before.before.before in
    (omega arith, c.arc_term-a.ensures.0, omega arith, λ s t f. let k = l.loop-n.invariant.3 s t f in (c.arc_term-a.ensures.1 s k.0, some_more b.args.h s b.requires.0 l.loop-n.n l.loop-n.a e.if-a-n.false k.0 k.1))

returns_3 : tie.Need-returns invariant_loop decreases_loop
returns_3 c =
    let l = c.before in
    let b = l.before.before.before in
    let e : l.loop-n.n ≡ b.args.to = omega arith in
    (subst (λ (n : ℕ). ArcFits n l.loop-n.a) e l.loop-n.invariant.1, λ s r. let k = known l s r in run_goes b.args.h s b.requires.0 b.args.to l.loop-n.a (subst (λ (n : ℕ). ArcAt b.args.h s n l.loop-n.a) e k.0) (subst (λ (n : ℕ). (j : ℕ) → j < n → arc_part b.args.h s j ≡ 0 → ⊥) e k.1))

pub arc_terms_spec : {M : Type 1} → statement M
arc_terms_spec =
    tie.close
    (tie.spec
    invariant_loop
    decreases_loop
    returns
    loop-holds
    mul-if2
    add-if2
    add-t11
    returns_2
    arc-term-requires
    add-n
    loop-less
    loop-again
    returns_3)
