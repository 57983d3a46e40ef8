-- `angles::arc::arc_ended` meets its contract: `whole_at` says that the cast gives the definition's whole number, at most 2^60; root and sum follow.
use Rattle.std.proofs.Common.{◌≡◌, ℕ, ◌-◌, ◌/◌, ◌^◌, ◌≤◌, T, sym, ap, ◌∙◌, subst, rules}
use lib.Ieee.{Float, fits, binary64}
use Rattle.angles.specs.declared.series.Ended.{Ended}
use Rattle.angles.specs.Angles.{size_of}
use Rattle.angles.specs.Arcs.{short_of, root_of}
use Rattle.angles.specs.Ended.{arc_ended, arc_at, end_of}
use Rattle.angles.proofs.Whole.{whole_at}
use Rattle.angles.proofs.arc.arc_ended.Statement.{statement}
use Rattle.angles.proofs.arc.arc_ended.Tie as tie

kept : (c : tie.Start) → T (fits binary64 c.args.w)
kept c = subst T (sym c.well_formed.0.1) tt

-- from x and s as the code has them
answer : (w : Float) (x s : ℕ) (r : Ended) → x ≡ size_of w → s ≡ root_of (2 ^ 60 - x) → r ≡ end_of (arc_ended ((2 ^ 60 - x) / 2) s) → r ≡ end_of (arc_at w)
answer w x s r X S R =
    let root : s ≡ root_of (short_of w) = S ∙ ap (λ (x : ℕ). root_of (2 ^ 60 - x)) X in
    R ∙ (λ i. end_of (arc_ended ((2 ^ 60 - X i) / 2) (root i)))

truncating-f64-to-u64-requires : tie.Need-truncating_f64_to_u64-x-requires
truncating-f64-to-u64-requires c κs = (whole_at _ (kept c) c.requires).0.0

sub-d : tie.Need-overflow_sub-d
sub-d c =
    let q = whole_at _ (kept c.before) c.requires in
    subst (λ (n : ℕ). n ≤ 2 ^ 60) (sym (c.truncating_f64_to_u64-x.ensures ∙ q.0.1)) q.1

returns : tie.Need-returns
returns c =
    let r = c.before in
    let t = r.before in
    let q = whole_at _ (kept t.before) t.requires in
    (answer t.args.w t.truncating_f64_to_u64-x.result r.root_59.result c.arc_sum.result (t.truncating_f64_to_u64-x.ensures ∙ q.0.1) r.root_59.ensures.0 c.arc_sum.ensures.0, c.arc_sum.ensures.1)

pub arc_ended_spec : {M : Type 1} → statement M
arc_ended_spec = tie.close (tie.spec truncating-f64-to-u64-requires sub-d (λ c κs. search rules) (λ c κs. search rules) returns)
