-- A column more, or a run that is refused.
use Rattle.std.proofs.Common.{◌≡◌, ◌*◌, refl, sym, ◌∙◌, length, arith, rules}
use Rattle.common.specs.IterLaws.{row_end}
use Rattle.kept_rows.specs.Kept.{kept}
use Rattle.scvx.specs.ProgressInner.{answers_kept, width_laid}
use Rattle.scvx.specs.ColumnLaws.{front_none, front_next, front_broken, front_whole, left_length, left_past}
use Rattle.scvx.proofs.columns.jacobian.Goals as goal
use Rattle.scvx.proofs.columns.jacobian.Goals.{then-past_row, else-past_row}

pub gather-requires : goal.gather-requires
gather-requires c =
    let whole : length c.args.r0 ≡ 79 = search rules in
    (width_laid c.args.p c.requires.0.m_is, omega (arith, c.requires.0.m_most))

pub know_angles-requires : goal.know_angles-requires
know_angles-requires c = let s = c.requires.0 in (s.sized, (s.narrow, refl))

pub loop-c-init : goal.loop-c-init
loop-c-init c = record {
  size = refl;
  front = λ r0 g z. front_none _ _ _ r0 _;
  past = λ i h. refl;
  base = (record { nodes = refl; errors = refl }, c.base_start.ensures _ _ _ refl);
}

pub past_row-requires : goal.past_row-requires
past_row-requires c = rw c.control_dim-controls.ensures c.requires.0.narrow

pub base_next-run-requires : goal.base_next-run-requires
base_next-run-requires c = let s = c.requires.0 in (s.sized, (s.narrow, (c.know_angles.ensures.1, c.loop-c.invariant.base)))

pub column-requires : goal.column-requires
column-requires c =
    let l = c.loop-c in
    let a = c.args in
    let s = c.requires.0 in
    (s.sized, (s.narrow, (omega (arith, s.n_most), (s.m_is, (omega (arith, row_end l.c a.n (kept a.m) (omega arith), s.fits, l.invariant.size), (c.know_angles.ensures.1, (answers_kept c.requires.1.1 c.gather.ensures, elim c.if-past_row.branch [ then-past_row w ↦ rw w.run-is w.base_next-run.ensures | else-past_row w ↦ rw w.run-is l.invariant.base ])))))))

pub returns-in-Err : goal.returns-in-Err
returns-in-Err c =
    let a = c.args in
    let s = c.requires.0 in
    let g = c.gather.ensures in
    let z = c.requires.1.0 in
    let l = c.loop-c in
    let t = c.column in
    let past = left_past a.p a.m a.z a.r0 l.c l.v (l.invariant.front a.r0 g z) t.new.v t.result (t.ensures.value.1 a.r0 g z) (a.n * kept a.m) (row_end l.c a.n (kept a.m) (omega arith)) in
    (front_broken a.p a.m a.z a.r0 l.c l.v (l.invariant.front a.r0 g z) s.m_is (omega (arith, s.n_is)) (sym t.ensures.value.0 ∙ c.in-Err.is), λ i h. past i h ∙ l.invariant.past i h)

pub loop-c-preserved : goal.loop-c-preserved
loop-c-preserved c =
    let a = c.args in
    let g = c.gather.ensures in
    let z = c.requires.1.0 in
    let l = c.loop-c in
    let t = c.column in
    let u = t.new.v in
    let here = l.invariant.front a.r0 g z in
    let past = left_past a.p a.m a.z a.r0 l.c l.v here u t.result (t.ensures.value.1 a.r0 g z) (a.n * kept a.m) (row_end l.c a.n (kept a.m) (omega arith)) in record {
      size = left_length a.p a.m a.z a.r0 l.c l.v here u t.result (t.ensures.value.1 a.r0 g z) ∙ l.invariant.size;
      front = λ r0 h o. front_next a.p a.m a.z r0 l.c l.v (l.invariant.front r0 h o) u t.ensures.value.0 c.in_default.is (t.ensures.value.1 r0 h o);
      past = λ i h. past i h ∙ l.invariant.past i h;
      base = t.ensures.holds;
    }

pub returns : goal.returns
returns c =
    let a = c.args in
    let s = c.requires.0 in
    let l = c.loop-c in
    let e : l.c ≡ a.n = omega arith in
    let here = l.invariant.front a.r0 c.gather.ensures c.requires.1.0 in
    (front_whole a.p a.m a.z a.r0 a.n l.v s.n_is s.m_is (omega (arith, s.fits, l.invariant.size)) (rw e at here), l.invariant.past)
