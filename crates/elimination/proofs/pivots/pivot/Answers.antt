use Rattle.std.proofs.Common.{◌≡◌, ap, sym, subst, ◌∙◌, ℕ, ◌+◌, ◌-◌, ◌<◌, ◌≤◌, Bool, length, arith}
use Rattle.std.proofs.Math.Bool.{cond}
use Rattle.std.specs.Float.Ieee.{Float, lt}
use Rattle.common.specs.IterLaws.{iter_none, iter_next}
use Rattle.common.specs.Lists.{at}
use Rattle.float.specs.Ops as Ops
use Rattle.elimination.specs.EliminationLaws.{choice, choice_within}
use Rattle.elimination.specs.TwoColumns.{pivot_of}
use Rattle.elimination.proofs.pivots.pivot.Invariants.{chosen}
use Rattle.elimination.proofs.pivots.pivot.Goals as goal

pub loop-i-init : goal.loop-i-init
loop-i-init c =
    let k : ℕ = c.args.k in
    let e : 0 ≡ k + 1 - (k + 1) = omega arith in
    (omega arith, omega arith, c.abs.ensures, subst (λ t. k ≡ chosen c.args.col.now k t) e (iter_none _ _))

pub loop-i-preserved : goal.loop-i-preserved
loop-i-preserved c =
    let a = c.args in
    let l = c.loop-i in
    let t : ℕ = l.i - (a.k + 1) in
    let i : a.k + 1 + t ≡ l.i = omega arith in
    let next : t + 1 ≡ l.i + 1 - (a.k + 1) = omega arith in
    let f : ℕ → Float = λ p. Ops.abs (at a.col.now p) in
    let b : Bool = lt (f l.best.at) (f l.i) in
    let eb : lt l.best.size (f l.i) ≡ b = ap (λ s. lt s (f l.i)) l.invariant.2 in
    let r = c.larger-best in
    let p : r.result.at ≡ cond b l.i l.best.at = r.ensures.0 ∙ ap (λ t. cond t l.i l.best.at) eb in
    let s : r.result.size ≡ cond b (f l.i) (f l.best.at) = r.ensures.1 ∙ ap (λ t. cond t (f l.i) l.best.size) eb ∙ ap (λ y. cond b (f l.i) y) l.invariant.2 in
    let w : (a.k ≤ r.result.at) × (r.result.at < length a.col.now) = choice_within b l.i l.best.at r.result.at a.k (length a.col.now) p (omega arith) (omega arith) (omega arith) (omega arith) in (
      w.1,
      w.0,
      choice b l.i l.best.at r.result.at f r.result.size p s,
      subst (λ x. r.result.at ≡ chosen a.col.now a.k x) next (iter_next _ _ t l.invariant.3 (subst (λ x. r.result.at ≡ cond (lt (f l.best.at) (f x)) x l.best.at) (sym i) p)),
    )

pub returns : goal.returns
returns c =
    let l = c.loop-i in
    let a = c.args in
    let e : l.i ≡ length a.col.now = omega arith in
    pivot_of (length a.col.now) a.k a.col.now l.best.at l.best.size (omega arith) (rw e at l.invariant.3) l.invariant.2 l.invariant.0 l.invariant.1
