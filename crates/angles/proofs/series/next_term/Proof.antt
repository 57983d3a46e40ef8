-- `angles::series::next_term` meets its contract: two products and a division, as in the definition; `next_fits` gives `over` its room.
use Rattle.std.proofs.Common.{ℕ, ◌*◌, ◌/◌, ◌^◌, ◌<◌, sym, ap, ◌∙◌, subst, rules}
use Rattle.angles.proofs.Division.{next_fits}
use Rattle.angles.proofs.series.next_term.Statement.{statement}
use Rattle.angles.proofs.series.next_term.Tie as tie

quotient-requires : tie.Need-quotient-requires
quotient-requires c κs =
    let s = c.before.before in
    let a = s.args in (
      s.requires.1,
      subst (λ (q : ℕ). q * a.d < 2 ^ 64) (sym (c.mul_shift-2.ensures ∙ ap (λ (x : ℕ). x * a.u / 2 ^ 60) c.mul_shift.ensures)) (next_fits a.t a.u a.d s.requires.0 s.requires.2),
    )

returns : tie.Need-returns
returns c =
    let m = c.before in
    let s = m.before.before in
    let a = s.args in
    c.quotient.ensures ∙ ap (λ (x : ℕ). x / a.d) (m.mul_shift-2.ensures ∙ ap (λ (x : ℕ). x * a.u / 2 ^ 60) m.mul_shift.ensures)

pub next_term_spec : {M : Type 1} → statement M
next_term_spec = tie.close (tie.spec (λ c κs. search rules) (λ c κs. search rules) quotient-requires returns)
