-- The Gram matrix of the kept rows is that of all rows.
use Rattle.std.proofs.Common.{◌≡◌, refl, ap, sym, subst, ◌+◌, ◌*◌, ◌≤◌, ◌++◌, length, take, drop, length-take-le, arith}
use Rattle.normal_equations.specs.Rows.{rows}
use Rattle.damped_steps.specs.Gram.{GramKept}
use Rattle.kept_rows.specs.Kept.{kept, columns}
use Rattle.scvx.specs.StepLaws.{kept_front, gram_whole, gram_of_all}
use Rattle.scvx.proofs.steps.sum_columns.Goals as goal
use Rattle.scvx.proofs.steps.sum_columns.Goals.{After-kept-w}

-- columns and matrix fit into the workspace
fits : (c : After-kept-w) → c.args.n * c.kept-w.result + c.args.n * c.args.n ≤ length c.args.ws.now
fits c = subst (λ k. c.args.n * k + c.args.n * c.args.n ≤ length c.args.ws.now) (sym c.kept-w.ensures) c.requires.1.1

pub slice_bounds-keep_gram-end : goal.slice_bounds-keep_gram-end
slice_bounds-keep_gram-end c = fits (goal.at.slice_bounds-keep_gram-end c).After-kept-w

pub keep_gram-requires : goal.keep_gram-requires
keep_gram-requires c = (c.requires.0, length-take-le _ _ (fits (goal.at.keep_gram-requires c).After-kept-w))

pub returns : goal.returns
returns c =
    let a = c.args in
    let w = c.kept-w.result in
    let known : w ≡ kept a.m = c.kept-w.ensures in
    let room = fits (goal.at.returns c).After-kept-w in
    let t = c.keep_gram in
    let same = kept_front a.n a.n w a.ws.now refl room t.new.v t.auto.v t.ensures.0 in (
      ap (columns a.n a.m) (subst (λ k. take (a.n * k) (t.new.v ++ drop (a.n * w + a.n * a.n) a.ws.now) ≡ take (a.n * k) a.ws.now) known same),
      gram_of_all a.n a.m a.ws.now _ c.requires.1.0
          (subst (λ k. GramKept a.n k (rows a.n k (take (a.n * k) a.ws.now)) t.new.gram) known (gram_whole a.n a.n w a.ws.now refl room _ t.ensures.1)),
    )
