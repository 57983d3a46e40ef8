-- A refused column ends the search with its runs counted; else the columns that stand are the Jacobian's.
use Rattle.std.proofs.Common.{ap, sym, ◌∙◌, arith}
use Rattle.scvx.specs.declared.SearchState.{SearchState}
use Rattle.scvx.specs.Search.{Formed}
use Rattle.scvx.specs.CountLaws.{broken_le}
use Rattle.scvx.specs.ProgressInner.{sizes_kept, width_laid, known_zeros, stands_formed, stands_broken}
use Rattle.scvx.specs.StepLaws.{linear_step_formed, linear_step_broken}
use Rattle.scvx.proofs.steps.form_columns.Goals as goal

pub jacobian-requires : goal.jacobian-requires
jacobian-requires c = let h = c.requires in (h.0, (known_zeros h.1.1.known h.0.m_is, h.1.1.known.answers))

pub count_runs-requires : goal.count_runs-requires
count_runs-requires c =
    let b = broken_le _ _ _ (rw c.in-Err.is at c.jacobian.ensures.0) in
    omega (arith, c.requires.0.n_is, c.requires.0.n_most, c.requires.1.0)

pub sum_columns-requires : goal.sum_columns-requires
sum_columns-requires c =
    let s = sizes_kept c.requires.0 c.jacobian.auto.v in
    (s.n_most, (width_laid c.args.p s.m_is, s.fits))

pub take_step-requires : goal.take_step-requires
take_step-requires c =
    let s = c.sum_columns in
    let q = ap (λ (x : SearchState). x.runs) c.count_runs-in-Ok.ensures in (
      sizes_kept c.requires.0 (s.auto.ws ∙ c.jacobian.auto.v),
      (omega (arith, c.requires.0.n_most, c.requires.1.0), (known_zeros c.requires.1.1.known c.requires.0.m_is, rw s.ensures.0 s.ensures.1)),
    )

pub returns-in-Err : goal.returns-in-Err
returns-in-Err c =
    let e = rw c.in-Err.is at c.jacobian.ensures.0 in
    (rw (c.with_status.ensures, c.count_runs.ensures) (linear_step_broken _ _ _ e), rw (c.with_status.ensures, c.count_runs.ensures) (stands_broken c.requires.1.1))

pub returns-in-Ok : goal.returns-in-Ok
returns-in-Ok c =
    let next = c.count_runs-in-Ok in
    let a = c.args in
    let z = c.requires.0 in
    let s = c.sum_columns in
    let e = (rw c.in-Ok.is at c.jacobian.ensures.0) ∙ ap Formed (sym s.ensures.0) in
    let t = c.take_step.ensures in (
      (rw next.ensures at t.0) ∙ linear_step_formed a.p a.g.state a.g.r z.n_is e,
      rw t.1.1 (t.1.0 _ _ (rw next.ensures (stands_formed c.requires.1.1 z.n_is z.m_is e (rw s.ensures.0 s.ensures.1)))),
    )
