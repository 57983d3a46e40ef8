-- `residuals::sums::sums_next` meets its contract: the turn of step k, and of the change of rate before it. Assumes nothing.
use Prim.Native.Nat.{◌+◌, ◌-◌}
use mathlib.Core.Path.{◌≡◌, refl, sym, ap, ◌∙◌}
use native.Mathlib.Omega.{arith}
use Rattle.common.specs.IterLaws.{iter_next}
use Rattle.residuals.specs.BeginLaws.{energy_turns, smooth_turns}
use borrow.Author.Rules.{rules}
use Rattle.residuals.proofs.sums.sums_next.Statement.{statement}
use Rattle.residuals.proofs.sums.sums_next.Tie as tie

returns : tie.Need-returns-then-k-eq0
returns c =
    let a = c.args in
    let s = c.requires.1 in
    let e : a.k - 1 ≡ a.k + 1 - 1 = omega arith in
    record {
      few = omega arith;
      long = s.long;
      energy = iter_next _ _ a.k s.energy (c.energy_turn-energy.ensures ∙ energy_turns a.nodes.now a.dt a.k a.s.energy (omega (arith, s.long)));
      smooth = rw e at s.smooth;
    }

returns_2 : tie.Need-returns
returns_2 c =
    let a = c.args in
    let s = c.requires.1 in
    let e : a.k - 1 + 1 ≡ a.k + 1 - 1 = omega arith in
    record {
      few = omega arith;
      long = s.long;
      energy = iter_next _ _ a.k s.energy (c.energy_turn-energy.ensures ∙ energy_turns a.nodes.now a.dt a.k a.s.energy (omega (arith, s.long)));
      smooth = rw e at (iter_next _ _ (a.k - 1) s.smooth (c.smooth_turn-smooth.ensures ∙ smooth_turns a.nodes.now a.dt (a.k - 1) a.k a.s.smooth (omega arith) (omega (arith, s.long))));
    }

pub sums_next_spec : {M : Type 1} → statement M
sums_next_spec =
    tie.close
    (tie.spec
    (λ c. search rules)
    (λ c. search rules)
    (λ c κs. search rules)
    returns
    (λ c. search rules)
    (λ c. search rules)
    (λ c. search rules)
    (λ c. search rules)
    (λ c. search rules)
    (λ c κs. search rules)
    returns_2)
