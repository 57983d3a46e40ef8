-- `shared_runs::base_next` meets its contract: one step more of the run, of the sums and of the errors. Assumes nothing.
use mathlib.Core.Path.{◌≡◌, refl, sym, ap, ◌∙◌}
use native.Mathlib.Omega.{arith}
use lib.Ieee as Ieee
use Rattle.forward.specs.PartLaws.{stands_on}
use Rattle.shared_runs.specs.SharedLaws.{kept_same}
use borrow.Author.Tests.{not-false}
use borrow.Author.Rules.{rules}
use Rattle.shared_runs.proofs.base_next.Statement.{statement}
use Rattle.shared_runs.proofs.base_next.Tie as tie

steps-under-requires : tie.Need-steps_under-w-requires
steps-under-requires c κs =
    let pre = c.requires in
    let k = pre.1.1.1.1 (not-false _ c.if-not-b.false) in
    (record { sized = pre.0; narrow = pre.1.0; angles = (k.skew, pre.1.1.0); sound = k.sound }, (omega arith, omega arith))

sums-next-requires : tie.Need-sums_next-sums-requires
unfolding Ieee.of_bits
sums-next-requires c κs =
    let a = c.args in
    let r = c.steps_under-w.ensures in
    let k = c.requires.1.1.1.1 (not-false _ c.if-not-b.false) in
    (omega arith, (kept_same a.p a.z.now a.b a.nodes.now c.steps_under-w.new.nodes a.errors.now r.size r.below k).begins.sums)

keep-error-requires : tie.Need-keep_error-known-requires
keep-error-requires c κs =
    let a = c.args in
    let r = c.steps_under-w.ensures in
    let held = c.requires.1.1.1 in
    let k = held.1 (not-false _ c.if-not-b.false) in
    rw c.target_of.ensures
    (omega arith, (r.size ∙ held.0.nodes, (held.0.errors, (kept_same a.p a.z.now a.b a.nodes.now c.steps_under-w.new.nodes a.errors.now r.size r.below k).begins.kept)))

returns_3 : tie.Need-returns
unfolding Ieee.of_bits
returns_3 c =
    let kept = c.before.before in
    let target = kept.before.before.before in
    let sums = target.before in
    let held = c.requires.1.1.1 in
    let r = c.steps_under-w.ensures in
    let k = held.1 (not-false _ c.if-not-b.false) in (
      record { nodes = r.size ∙ held.0.nodes; errors = c.keep_error-known.ensures.1 },
      λ h.
          let g = c.goes.ensures h in
          record {
            skew = k.skew;
            sound = r.sound g.0;
            after = stands_on _ _ _ _ k.after (omega arith) (omega arith) r g.0;
            begins = record { sums = c.sums_next-sums.ensures; kept = rw c.target_of.ensures at (c.keep_error-known.ensures.0 g.1) };
          },
    )

pub base_next_spec : {M : Type 1} → statement M
base_next_spec =
    tie.close
    (tie.spec
    (λ c. c.requires.1.1.1)
    (λ c. c.requires.1.1.1)
    (λ c. search rules)
    steps-under-requires
    (λ c. search rules)
    sums-next-requires
    (λ c κs. search rules)
    keep-error-requires
    (λ c κs. search rules)
    (λ c. search rules)
    returns_3)
