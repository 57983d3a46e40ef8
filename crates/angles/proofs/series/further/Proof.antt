-- `angles::series::further` meets its contract: it is term j + 1 (`term_same`) and not zero (`some_above`), and the sum has room for it.
use Rattle.std.proofs.Common.{◌≡◌, ℕ, suc, ◌+◌, ◌*◌, ◌^◌, ◌<◌, ◌≤◌, sym, ap, subst, arith, rules}
use Rattle.angles.specs.declared.series.Stage.{Stage}
use Rattle.angles.specs.Angles.{divisor}
use Rattle.angles.specs.SizesInner.{Small}
use Rattle.angles.specs.EndedInner.{part_of}
use Rattle.angles.proofs.Leasts.{some_above}
use Rattle.angles.proofs.Stages.{count_is, small, fits, divisor_most, divisor_least, term_same, within_even, within_odd, taken_off, added}
use Rattle.angles.proofs.series.further.Statement.{statement}
use Rattle.angles.proofs.series.further.Tie as tie

-- what was worked out is term j + 1
is : (c : tie.After-term_after-t) → c.term_after-t.result ≡ part_of c.args.c c.args.u (suc c.args.j)
is c = let s = c.before in term_same s.args.c s.args.u s.args.j s.args.p s.requires.4 c.term_after-t.ensures

not_zero : (c : tie.Start) → 1 ≤ part_of c.args.c c.args.u (suc c.args.j)
not_zero c = some_above c.args.c c.args.u c.args.j c.requires.0 c.requires.1 c.requires.5

more : (c : tie.After-term_after-t) → c.args.p.terms + 1 < 2 ^ 64
more c = let s = c.before in subst (λ (q : Stage). q.terms + 1 < 2 ^ 64) (sym s.requires.4) (omega (arith, (count_is s.args.c s.args.u s.args.j).within))

mul-term-after-3 : tie.Need-overflow_mul-j-3
mul-term-after-3 c = omega (arith, divisor_most c.args.c c.args.j c.requires.0 c.requires.1)

term-after-requires : tie.Need-term_after-t-requires
term-after-requires c κs =
    let a = c.args in
    let t : a.p.term ≡ part_of a.c a.u a.j = ap (λ (q : Stage). q.term) c.requires.4 in (
      c.requires.2,
      divisor_least a.c a.j,
      subst (λ (t : ℕ). t * divisor a.c a.j < 2 ^ 64) (sym t) (fits a.c a.u a.j c.requires.0 c.requires.1 c.requires.2),
      c.requires.3,
      subst (λ (t : ℕ). Small a.j t a.u (divisor a.c a.j)) (sym t) (small a.c a.u c.requires.0 c.requires.2 a.j),
    )

sub-t16 : tie.Need-overflow_sub-result
sub-t16 c = let s = c.before.before.before in within_even s.args.c s.args.u s.args.j s.args.p s.requires.4 _ (is c.before.before) s.requires.2 c.if-j-eq0.true

add-t17 : tie.Need-overflow_add-result
add-t17 c = omega (arith, more c.before.before.before)

add-t18 : tie.Need-overflow_add-result-else-j-eq0
add-t18 c = let s = c.before.before.before in omega (arith, within_odd s.args.c s.args.u s.args.j s.args.p s.requires.4 _ (is c.before.before) s.requires.2 c.if-j-eq0.false)

add-t19 : tie.Need-overflow_add-result-else-j-eq0-2
add-t19 c = omega (arith, more c.before.before.before)

returns : tie.Need-returns-then-j-eq0
returns c = let s = c.before.before.before.before in taken_off s.args.c s.args.u s.args.j s.args.p s.requires.4 _ (is c.before.before.before) (not_zero s) c.if-j-eq0.true

returns_2 : tie.Need-returns-else-j-eq0
returns_2 c = let s = c.before.before.before.before in added s.args.c s.args.u s.args.j s.args.p s.requires.4 _ (is c.before.before.before) (not_zero s) c.if-j-eq0.false

pub further_spec : {M : Type 1} → statement M
further_spec =
    tie.close
    (tie.spec
    (λ c. search rules)
    (λ c. search rules)
    (λ c. search rules)
    (λ c. search rules)
    (λ c. search rules)
    (λ c. search rules)
    mul-term-after-3
    term-after-requires
    sub-t16
    add-t17
    add-t18
    add-t19
    returns
    returns_2)
