-- A status that is not on its way stays; where the damping stays the strongest, the turns that are left repeat the last (`repeated_to`).
use Rattle.std.proofs.Common.{ℕ, ◌+◌, ◌*◌, ◌-◌, ◌≤◌, ◌≡◌, refl, ap, sym, ◌∙◌, mul-le-mul, le_refl, arith}
use Rattle.common.specs.Iter.{iter}
use Rattle.common.specs.IterLaws.{iter_none, iter_next, iter_stays}
use Rattle.scvx.specs.declared.Status.TheVariants.{Going}
use Rattle.scvx.specs.declared.SearchState.{SearchState}
use Rattle.scvx.specs.Search as Search
use Rattle.scvx.specs.CountLaws.{iterate_le}
use Rattle.scvx.specs.RepeatLaws.{iterate_grows, repeated_to}
use Rattle.scvx.specs.ProgressInner.{sizes_kept, stands_new, counted}
use Rattle.scvx.specs.StepLaws.{turn_going, turn_ended, turn_refused}
use Rattle.scvx.proofs.turns.turns.Goals as goal
use Rattle.scvx.proofs.turns.turns.Goals.{After-iterate-g}

pub loop-k-init : goal.loop-k-init
loop-k-init c =
    let h = c.requires in record {
      runs = omega (arith, h.1.0);
      on = h.1.1.0;
      same = iter_none _ _;
      holds = rw h.1.1.1.0 (stands_new h.1.1.1.1);
    }

pub iterate-g-requires : goal.iterate-g-requires
iterate-g-requires c =
    let l = c.loop-k.invariant in
    (sizes_kept c.requires.0 c.loop-k.auto.ws, (omega arith, (omega (arith, l.runs), l.holds)))

-- an iteration is the definition's turn
next : (c : After-iterate-g) → c.iterate-g.result.state ≡ Search.turn c.args.p c.loop-k.k c.loop-k.g.state
next c = c.iterate-g.ensures.0 ∙ sym (turn_going c.args.p c.loop-k.k c.loop-k.g.state c.loop-k.invariant.on)

-- the runs of an iteration are those of its definition
runs_same : (c : After-iterate-g) → c.iterate-g.result.state.runs ≡ (Search.iterate c.args.p c.loop-k.k c.loop-k.g.state).runs
runs_same c = ap (λ (x : SearchState). x.runs) c.iterate-g.ensures.0

pub returns-in-Ended : goal.returns-in-Ended
returns-in-Ended c =
    let l = c.loop-k in
    iter_stays _ _ (l.k + 1) 40 (omega arith) (iter_next _ _ l.k l.invariant.same (next (goal.at.returns-in-Ended c).After-iterate-g)) (λ j. turn_ended _ j _ c.in-Ended.is)

pub returns-in-Refused : goal.returns-in-Refused
returns-in-Refused c =
    let l = c.loop-k in
    iter_stays _ _ (l.k + 1) 40 (omega arith) (iter_next _ _ l.k l.invariant.same (next (goal.at.returns-in-Refused c).After-iterate-g)) (λ j. turn_refused _ j _ c.in-Refused.is)

pub overflow_sub-s : goal.overflow_sub-s
overflow_sub-s c = omega (arith, runs_same (goal.at.overflow_sub-s c).After-iterate-g, iterate_grows c.args.p c.loop-k.k c.loop-k.g.state)

repeats_most : (k r x n : ℕ) → k + 1 ≤ 40 → r ≤ 1 + k * 195 → x ≤ r + (n + 2) → n ≤ 193 → x + (40 - (k + 1)) * (x - r) ≤ 9000
repeats_most k r x n h a b c =
    let m : (40 - (k + 1)) * (x - r) ≤ (40 - (k + 1)) * 195 = mul-le-mul {m₂ = 195} (le_refl (40 - (k + 1))) (omega arith) in
    omega arith

pub repeat_last-requires : goal.repeat_last-requires
repeat_last-requires c =
    let l = c.loop-k in
    let p = c.args.p in
    let pre = c.requires.0 in
    let s = (goal.at.repeat_last-requires c).After-iterate-g in
    (omega arith, repeats_most l.k l.g.state.runs _ (Search.numbers p) (omega arith) l.invariant.runs (omega (arith, runs_same s, iterate_le p l.k l.g.state)) (omega (arith, pre.n_is, pre.n_most)))

pub returns-then-is_settled : goal.returns-then-is_settled
returns-then-is_settled c =
    let p = c.args.p in
    let k : ℕ = c.loop-k.k in
    let g : SearchState = c.loop-k.g.state in
    let l = c.loop-k.invariant in
    let is = c.iterate-g.ensures.0 in
    let top = c.is_settled.ensures c.if-is_settled.true in
    let on : (Search.iterate p k g).status ≡ Going = sym (ap (λ (x : SearchState). x.status) is) ∙ c.in-Going.is in
    let still : (Search.iterate p k g).lambda ≡ Search.strongest = sym (ap (λ (x : SearchState). x.lambda) is) ∙ top.1 in
    c.repeat_last.ensures
    ∙ ap (λ (x : SearchState). counted x ((40 - (k + 1)) * (x.runs - g.runs)) 40) is
    ∙ repeated_to p k g l.on top.0 on still _ 40 (omega arith) (iter_next _ _ k l.same (sym (turn_going p k g l.on)))

pub loop-k-preserved : goal.loop-k-preserved
loop-k-preserved c =
    let s = (goal.at.loop-k-preserved c).After-iterate-g in
    let pre = c.requires.0 in
    let l = c.loop-k in
    let t = c.iterate-g in record {
      runs = omega (arith, pre.n_is, pre.n_most, l.invariant.runs, runs_same s, iterate_le c.args.p l.k l.g.state);
      on = c.in-Going.is;
      same = iter_next _ _ l.k l.invariant.same (next s);
      holds = t.ensures.1;
    }

pub returns : goal.returns
returns c = let e : c.loop-k.k ≡ 40 = omega arith in rw (← e) c.loop-k.invariant.same
