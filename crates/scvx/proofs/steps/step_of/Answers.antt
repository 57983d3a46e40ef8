-- The step of the kept rows is that of all rows, and so is their Gram matrix.
use Rattle.std.proofs.Common.{ℕ, ◌≡◌, ap, sym, subst, ◌∙◌, ◌+◌, ◌*◌, ◌≤◌, List, ◌++◌, length, take, drop, replicate, length-take-le, arith, rules}
use Rattle.std.specs.Prelude.{Float}
use lib.Seq.{take_at}
use Rattle.common.specs.Floats.{plus_zero}
use Rattle.elimination.specs.Elimination.{told, damped_step}
use Rattle.normal_equations.specs.Rows.{rows}
use Rattle.damped_steps.specs.Gram.{GramKept}
use Rattle.kept_rows.specs.Kept.{kept, columns}
use Rattle.kept_rows.specs.KeptLaws.{kept_most, laid_most}
use Rattle.scvx.specs.ProgressInner.{columns_in}
use Rattle.scvx.specs.StepLaws.{told_front, kept_front, gram_front, gram_of_kept, step_kept}
use Rattle.scvx.proofs.steps.step_of.Goals as goal
use Rattle.scvx.proofs.steps.step_of.Goals.{After-kept-w, After-kept_step}

abbrev blank : List Float
blank = replicate 193 plus_zero

-- columns and matrix fit into the workspace
fits : (n m w : ℕ) (ws : List Float) → w ≡ kept m → n * kept m + n * n ≤ length ws → n * w + n * n ≤ length ws
fits n m w ws e h = rw e h

-- the Gram matrix of the kept rows
summed : (c : After-kept-w) → GramKept c.args.n c.kept-w.result (rows c.args.n c.kept-w.result (take (c.args.n * c.kept-w.result) c.args.ws.now)) c.args.gram.now
summed c =
    let a = c.args in
    subst (λ k. GramKept a.n k (rows a.n k (take (a.n * k) a.ws.now)) a.gram.now) (sym c.kept-w.ensures) (gram_of_kept a.n a.m a.ws.now a.gram.now c.requires.1.0 c.requires.1.1.1.1)

pub gather-requires : goal.gather-requires
gather-requires c =
    let long : length c.args.r ≡ 79 = search rules in
    (c.requires.1.0, omega (arith, laid_most c.requires.1.0))

pub slice_bounds-kept_step-end : goal.slice_bounds-kept_step-end
slice_bounds-kept_step-end c = fits c.args.n c.args.m _ _ c.kept-w.ensures c.requires.1.1.0

pub kept_step-requires : goal.kept_step-requires
kept_step-requires c =
    let a = c.args in
    let room = fits a.n a.m _ _ c.kept-w.ensures c.requires.1.1.0 in
    let w = c.kept-w.result in
    let e : length (take a.n blank) ≡ a.n = length-take-le a.n blank (omega (arith, c.requires.0)) in
    let whole : length a.r ≡ 79 = search rules in (
      omega (arith, c.requires.0),
      omega (arith, c.kept-w.ensures, kept_most a.m c.requires.1.0, laid_most c.requires.1.0, c.gather.auto.r),
      length-take-le _ _ room ∙ ap (λ k. k * w + k * k) (sym e),
      gram_front (length (take a.n blank)) a.n w a.ws.now e room a.gram.now (summed (goal.at.kept_step-requires c).After-kept-w),
    )

-- what the equations give
step_told : (c : After-kept_step) → told c.kept_step.result (take c.args.n (c.kept_step.new.g ++ drop c.args.n blank)) ≡ damped_step c.args.n c.args.m (columns_in c.args.n c.args.m c.args.ws.now) c.args.r c.args.lambda
step_told c =
    let a = c.args in
    let room = fits a.n a.m _ _ c.kept-w.ensures c.requires.1.1.0 in
    let w = c.kept-w.result in
    let t = c.kept_step in
    let d : List Float = t.new.g in
    let x : List Float = c.gather.new.r in
    let e : length (take a.n blank) ≡ a.n = length-take-le a.n blank (omega (arith, c.requires.0)) in
    ap (λ y. told t.result y) (take_at d (drop a.n blank) a.n (t.auto.g ∙ e))
    ∙ told_front (length (take a.n blank)) a.n w a.ws.now e room t.result d x a.lambda t.ensures.1
    ∙ ap (λ k. damped_step a.n k (rows a.n k (take (a.n * k) a.ws.now)) x a.lambda) c.kept-w.ensures
    ∙ step_kept a.n a.m a.ws.now a.r x a.lambda c.requires.1.0 c.gather.ensures c.requires.1.1.1.0

-- the columns stay
stay : (c : After-kept_step) → columns_in c.args.n c.args.m (c.kept_step.new.v ++ drop (c.args.n * c.kept-w.result + c.args.n * c.args.n) c.args.ws.now) ≡ columns_in c.args.n c.args.m c.args.ws.now
stay c =
    let a = c.args in
    let room = fits a.n a.m _ _ c.kept-w.ensures c.requires.1.1.0 in
    let w = c.kept-w.result in
    let t = c.kept_step in
    let e : length (take a.n blank) ≡ a.n = length-take-le a.n blank (omega (arith, c.requires.0)) in
    let same = kept_front (length (take a.n blank)) a.n w a.ws.now e room t.new.v t.auto.v t.ensures.0 in
    ap (columns a.n a.m) (subst (λ k. take (a.n * k) (t.new.v ++ drop (a.n * w + a.n * a.n) a.ws.now) ≡ take (a.n * k) a.ws.now) c.kept-w.ensures same)

pub returns-then-kept_step : goal.returns-then-kept_step
returns-then-kept_step c =
    let s = (goal.at.returns-then-kept_step c).After-kept_step in
    (ap (λ b. told b (take c.args.n (c.kept_step.new.g ++ drop c.args.n blank))) (sym c.if-kept_step.true) ∙ step_told s, stay s)

pub returns-else-kept_step : goal.returns-else-kept_step
returns-else-kept_step c =
    let s = (goal.at.returns-else-kept_step c).After-kept_step in
    (ap (λ b. told b (take c.args.n (c.kept_step.new.g ++ drop c.args.n blank))) (sym c.if-kept_step.false) ∙ step_told s, stay s)
