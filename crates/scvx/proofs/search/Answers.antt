-- `scvx::search` meets its contract: a seed whose run is refused ends it; else the turns begin with its residuals known, and their count bounds the runs.
use mathlib.Core.Path.{◌≡◌, refl, ap, ◌∙◌}
use Rattle.common.specs.Iter.{iter}
use Rattle.scvx.specs.declared.SearchState.{SearchState}
use Rattle.scvx.specs.declared.Progress.{Progress}
use Rattle.scvx.specs.Search as Search
use Rattle.scvx.specs.CountLaws.{turns_le}
use Rattle.scvx.specs.ProgressInner.{numbers_most, width_most, sizes_of, known_of}
use Rattle.scvx.specs.StepLaws.{start_going, search_refused}
use native.Mathlib.Omega.{arith}
use Rattle.scvx.proofs.search.Goals as goal

pub start-requires : goal.start-requires
start-requires c =
    let w = width_most c.args.p in omega (arith, c.width-m.ensures)

pub turns-requires : goal.turns-requires
turns-requires c =
    let residuals-of = c.residuals_of-e in
    let enum_told = c.in-Ok in
    let numbers = c.numbers-n in (
      sizes_of c.args.p _ _ _ c.requires.0 c.requires.1 numbers.ensures c.width-m.ensures c.requires.2,
      (rw c.start.ensures refl, (rw c.start.ensures refl, (rw c.start.ensures refl, rw c.start.ensures (known_of _ residuals-of.ensures enum_told.is c.width-m.ensures refl)))),
    )

pub conclude-requires : goal.conclude-requires
conclude-requires c =
    let n = numbers_most c.args.p c.requires.1 in
    let one : c.start.result.state.runs ≡ 1 = ap (λ (x : Progress). x.state.runs) c.start.ensures in
    let q = ap (λ (x : SearchState). x.runs) c.turns.ensures in
    let most = turns_le c.args.p c.start.result.state 40 in
    (c.requires.0, (c.requires.1, omega arith))

pub returns-in-Err : goal.returns-in-Err
returns-in-Err c =
    let residuals-of = c.residuals_of-e in
    (c.not_found.ensures ∙ search_refused c.args.p c.args.seed residuals-of.ensures c.in-Err.is, refl)

pub returns-in-Ok : goal.returns-in-Ok
unfolding Search.search Search.searched
returns-in-Ok c =
    let residuals-of = c.residuals_of-e in
    let enum_told = c.in-Ok in
    let width = c.width-m in
    let start = c.start in
    let first = ap (λ (x : Progress). x.state) start.ensures ∙ start_going c.args.p c.args.seed residuals-of.ensures width.ensures enum_told.is in
    (c.conclude.ensures ∙ ap (λ (s : SearchState). Search.conclude c.args.p s) (c.turns.ensures ∙ ap (λ (s : SearchState). iter (Search.turn c.args.p) s 40) first), c.turns.auto.ws)
