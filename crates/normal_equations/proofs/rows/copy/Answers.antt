use Rattle.std.proofs.Common.{refl, arith}
use Rattle.std.specs.Float.{nan}
use lib.Seq.{ext_get_or}
use Rattle.normal_equations.specs.FilledInner.{filled_none, filled_set}
use Rattle.normal_equations.proofs.rows.copy.Goals as goal

pub loop-i-init : goal.loop-i-init
loop-i-init c = filled_none _ _ _

pub loop-i-preserved : goal.loop-i-preserved
loop-i-preserved c = let l = c.loop-i in
    filled_set _ 0 l.i c.args.to.now l.to _ (omega arith) (omega arith) l.invariant refl

pub returns : goal.returns
returns c = let l = c.loop-i in
    ext_get_or nan l.to c.args.from.now (omega arith) (λ x h. l.invariant.done x (omega arith) (omega arith))
