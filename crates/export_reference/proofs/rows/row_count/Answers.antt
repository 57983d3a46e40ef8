-- `rows::row_count` meets its contract, case by case. Assumes nothing.
use Rattle.std.proofs.Common.{◌≡◌, ◌+◌, ◌<◌, ◌≤◌, ℕ, Bool, true, false, ltb, min, refl, arith, ◌∙◌}
use Rattle.std.proofs.lemmas.Bool.{ltb-true, ltb-false}
use Rattle.reference.specs.declared.plan.Planned.{Planned}
use Rattle.export_reference.specs.RowLaws.{count_refused, count_lent, count_all}
use Rattle.export_reference.specs.Rows as Rows
use Rattle.export_reference.proofs.rows.row_count.Goals as goal
use Rattle.common.specs.Refusals.{going}

least : (x : Planned) (lent n : ℕ) → x.fate ≡ going → n ≡ min lent (x.reference.steps + 1) → n ≡ Rows.count x lent
least x lent n e m = by (ltb lent (x.reference.steps + 1)) refl
  where
    by : (b : Bool) → ltb lent (x.reference.steps + 1) ≡ b → n ≡ Rows.count x lent
    by true t =
        let h : lent < x.reference.steps + 1 = ltb-true _ _ t in
        let is : n ≡ lent = omega (arith, m, h) in
        is ∙ count_lent x lent h e
    by false t =
        let h : x.reference.steps + 1 ≤ lent = ltb-false _ _ t in
        let is : n ≡ x.reference.steps + 1 = omega (arith, m, h) in
        is ∙ count_all x lent h e

pub returns-in-Err : goal.returns-in-Err
returns-in-Err c = (count_refused _ _ c.in-Err.is, (omega arith, omega arith))

pub returns-in-Ok : goal.returns-in-Ok
returns-in-Ok c = (least _ _ _ c.in-Ok.is c.min.ensures, (omega (arith, c.min.ensures), omega (arith, c.min.ensures)))
