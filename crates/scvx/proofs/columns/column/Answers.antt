-- The sharing run answers the residuals, or they are those of z; the slopes of their kept rows are the kept rows of the slopes.
use Rattle.std.proofs.Common.{◌≡◌, ap, sym, subst, ◌∙◌, refl, List, arith}
use Rattle.std.proofs.lemmas.Result.{err_from_is_err_and}
use Rattle.std.specs.Prelude.{Float, Err}
use Rattle.kept_rows.specs.Kept.{Gathered}
use Rattle.residuals.specs.Residuals.{residuals_of}
use Rattle.residuals.specs.declared.ResidualVector.{ResidualVector}
use Rattle.kept_rows.specs.KeptLaws.{slopes_kept, kept_most}
use Rattle.scvx.specs.Search.{perturb}
use Rattle.scvx.specs.ProgressInner.{column_stands, width_laid, width_zeros, width_most}
use Rattle.scvx.proofs.columns.column.Goals as goal
use Rattle.scvx.proofs.columns.column.Goals.{After-residuals_sharing-e}

-- the run is that of the nudged decision
run : (c : After-residuals_sharing-e) → c.residuals_sharing-e.result ≡ residuals_of c.args.p (perturb c.args.p c.args.z.now c.args.c)
run c = c.residuals_sharing-e.ensures.0 ∙ ap (λ (z : List Float). residuals_of c.args.p z) c.perturb-y.ensures

pub gather-requires : goal.gather-requires
gather-requires c =
    let em = c.requires.1.1.1.0 in
    (width_laid c.args.p em, omega (arith, width_most c.args.p, em))

pub put_column-requires : goal.put_column-requires
put_column-requires c =
    let em = c.requires.1.1.1.0 in
    rw c.kept.ensures (omega (arith, kept_most c.args.m (width_laid c.args.p em), width_most c.args.p, em), c.requires.1.1.1.1.0)

pub returns-then-same_decision : goal.returns-then-same_decision
returns-then-same_decision c =
    let a = c.args in
    let em = c.requires.1.1.1.0 in
    let answers = c.requires.1.1.1.1.1.1.0 in
    let e : perturb a.p a.z.now a.c ≡ a.z.now = sym c.perturb-y.ensures ∙ c.same_decision.ensures c.if-same_decision.true in
    let gathered : Gathered a.m (residuals_of a.p (perturb a.p a.z.now a.c)).r a.r0.now =
    subst (λ y. Gathered a.m (residuals_of a.p y).r a.r0.now) (sym e) answers.rows in
    let put = rw c.kept.ensures at c.put_column.ensures in record {
      value = (
        sym (ap (λ (y : List Float). (residuals_of a.p y).fate) e ∙ answers.goes),
        λ r0 g z. column_stands put (slopes_kept a.m _ r0 _ _ (width_laid a.p em) gathered g (width_zeros a.p (perturb a.p a.z.now a.c) em) z),
      );
      holds = c.requires.1.1.1.1.1.1.1;
    }

pub put_column-requires-2 : goal.put_column-requires-2
put_column-requires-2 c =
    let em = c.requires.1.1.1.0 in
    rw c.kept-2.ensures (omega (arith, kept_most c.args.m (width_laid c.args.p em), width_most c.args.p, em), c.requires.1.1.1.1.0)

pub returns-in_err-e : goal.returns-in_err-e
returns-in_err-e c =
    let s = (goal.at.returns-in_err-e c).After-residuals_sharing-e in
    let p = err_from_is_err_and c.from_residual.result c.from_residual.ensures.1 in record {
      value = (p.1 ∙ ap Err p.2 ∙ sym c.in_err-e.was ∙ ap (λ (x : ResidualVector). x.fate) (run s), λ r0 g z. rw p.1 refl);
      holds = c.residuals_sharing-e.ensures.1;
    }

pub returns : goal.returns
returns c =
    let s = (goal.at.returns c).After-residuals_sharing-e in
    let a = c.args in
    let em = c.requires.1.1.1.0 in
    let gathered = rw (run s) at c.gather.ensures in
    let put = rw c.kept-2.ensures at c.put_column-2.ensures in record {
      value = (
        sym c.in_ok-e.was ∙ ap (λ (x : ResidualVector). x.fate) (run s),
        λ r0 g z. column_stands put (slopes_kept a.m _ r0 _ _ (width_laid a.p em) gathered g (width_zeros a.p (perturb a.p a.z.now a.c) em) z),
      );
      holds = c.residuals_sharing-e.ensures.1;
    }
